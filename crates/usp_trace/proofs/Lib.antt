pub mod Ordered
pub mod IndexLemmas
pub mod Origins
pub mod Chained
pub mod Linked
pub mod Handed
pub mod Longer
pub mod Said
