-- Which contents a container meets.
use Rattle.std.proofs.Common.{true, false, eqb, Bool, IsTrue, IfOk, Result, Ok, Err, ◌≡◌, ◌≢◌, ◌↔◌, inl, inr, ℕ, ◌<◌, List, ◌++◌, codes, Some, None, get_or, refl, sym, ap, ◌∙◌, subst, arith}
use Rattle.usp_ere.specs.declared.fault.EreFault.{EreFault}
use Rattle.usp_ere.specs.declared.limits.TheConstants.{MAX_SIZE}
use Rattle.usp_ere.specs.declared.fault.EreFault.TheVariants.{Syntax, Undefined, Repeat, TooLarge, NoMemory}
use Rattle.usp_ere.specs.Compiled.{Compiles, IsRefusedFor}
use Rattle.usp_ere.specs.Expression.{Expr, Finds, size_of}
use Rattle.usp_ere.specs.Faults.{fault_of}
use Rattle.usp_ere.proofs.Reading.{one_tree}
use Rattle.usp_ere.specs.declared.ere.Ere.{Ere}
use Rattle.usp_ere.specs.Compiled.{expression_of}
use Rattle.usp_rules.specs.Kinds.{MeetsAs, ReadsAs}
use Rattle.usp_rules.specs.declared.container.Container.{Container}
use Rattle.usp_rules.specs.declared.container.Container.TheVariants.{Regex}
use Rattle.usp_rules.specs.declared.fault.NoMemory.{NoMemory as Unmet}
use Rattle.usp_rules.specs.Segment.{segment_of}
use Rattle.usp_rules.specs.Containers.{Meets}

-- a text compiles to one expression
one_compiled : (text : List ℕ) (x y : Expr) → Compiles text x → Compiles text y → x ≡ y
one_compiled text x y p q = one_tree x y _ p.spelled.1 q.spelled.1

same_rest : (a b : List ℕ) → codes "hash:" ++ a ≡ codes "hash:" ++ b → a ≡ b
same_rest a b e = cc

same_text : (a b : List ℕ) → codes "regex:" ++ a ≡ codes "regex:" ++ b → a ≡ b
same_text a b e = cc

apart : (a b : List ℕ) → codes "hash:" ++ a ≡ codes "regex:" ++ b → ⊥
apart a b e =
    let heads : eqb (get_or (codes "hash:" ++ a) 0 0) 114 ≡ eqb (get_or (codes "regex:" ++ b) 0 0) 114 = ap (λ l. eqb (get_or l 0 0) 114) e in
    let differ : false ≡ true = heads in cc

meets_by_hash : (container segment uri : List ℕ) → container ≡ codes "hash:" ++ segment → Meets container uri → segment ≡ segment_of uri
meets_by_hash container segment uri is (inl met) = same_rest segment (segment_of uri) (sym is ∙ met)
meets_by_hash container segment uri is (inr met) = absurd (apart segment met.0 (sym is ∙ met.2))

-- a hash container meets the one content
pub hash_meets : (container segment uri : List ℕ) → container ≡ codes "hash:" ++ segment → (segment ≡ segment_of uri) ↔ Meets container uri
hash_meets container segment uri is = (λ same. inl (is ∙ ap (λ s. codes "hash:" ++ s) same), meets_by_hash container segment uri is)

found_by : (container text uri : List ℕ) (e : Expr) → container ≡ codes "regex:" ++ text → Compiles text e → Meets container uri → Finds e uri
found_by container text uri e is compiles (inl met) = absurd (apart (segment_of uri) text (sym met ∙ is))
found_by container text uri e is compiles (inr met) =
    let same : met.0 ≡ text = same_text met.0 text (sym met.2 ∙ is) in
    let compiled : Compiles text met.1 = subst (λ t. Compiles t met.1) same met.3 in
    subst (λ x. Finds x uri) (one_compiled text met.1 e compiled compiles) met.4

-- an expression container meets the contents that its expression finds
pub regex_meets : (container text uri : List ℕ) (e : Expr) → container ≡ codes "regex:" ++ text → Compiles text e → Finds e uri ↔ Meets container uri
regex_meets container text uri e is compiles = (λ found. inr (text, e, is, compiles, found), found_by container text uri e is compiles)

-- a refused one meets nothing
pub refused_meets : (container uri : List ℕ) → ((segment : List ℕ) → container ≡ codes "hash:" ++ segment → ⊥)
    → ((text : List ℕ) (e : Expr) → container ≡ codes "regex:" ++ text → Compiles text e → ⊥) → Meets container uri → ⊥
refused_meets container uri hash regex (inl met) = hash (segment_of uri) met
refused_meets container uri hash regex (inr met) = regex met.0 met.1 met.2 met.3

some_fault : (text : List ℕ) (fault : EreFault) (e : Expr) → fault_of text ≡ Some fault → Compiles text e → ⊥
some_fault text fault e is compiles = let both : None ≡ Some fault = sym compiles.spelled.0 ∙ is in cc

-- what is refused for another cause than memory compiles to nothing
pub not_compiled : (text : List ℕ) (fault : EreFault) → IsRefusedFor text fault → fault ≢ NoMemory → (e : Expr) → Compiles text e → ⊥
not_compiled text NoMemory refused other e compiles = other refl
not_compiled text TooLarge refused other e compiles =
    let same : refused.0 ≡ e = one_tree refused.0 e _ refused.1.1 compiles.spelled.1 in
    let large : MAX_SIZE < size_of e = subst (λ x. MAX_SIZE < size_of x) same refused.2 in
    omega (arith, large, compiles.small)
not_compiled text (Syntax at) refused other e compiles = some_fault text (Syntax at) e refused compiles
not_compiled text (Undefined at) refused other e compiles = some_fault text (Undefined at) e refused compiles
not_compiled text (Repeat at) refused other e compiles = some_fault text (Repeat at) e refused compiles

-- what the expression of a container finds is what the container meets
pub regex_found : (text uri : List ℕ) (container : Container) (ere : Ere) (r : Result Bool Unmet) → container ≡ Regex ere → ReadsAs text container
    → IfOk r (λ found. IsTrue found ↔ Finds (expression_of ere) uri) → IfOk r (λ met. IsTrue met ↔ Meets text uri)
regex_found text uri container ere (Err e) is reads found = found
regex_found text uri container ere (Ok b) is reads found =
    let as_regex : ReadsAs text (Regex ere) = rw is at reads in
    let meets = regex_meets text as_regex.0 uri (expression_of ere) as_regex.1 as_regex.2 in
    (λ yes. meets.0 (found.0 yes), λ met. found.1 (meets.1 met))

-- what an expression finds is what a container that is read as it meets
pub regex_as : (uri : List ℕ) (container : Container) (ere : Ere) (r : Result Bool Unmet) → container ≡ Regex ere
    → IfOk r (λ found. IsTrue found ↔ Finds (expression_of ere) uri) → IfOk r (λ met. IsTrue met ↔ MeetsAs container uri)
regex_as uri container ere r is found = subst (λ c. IfOk r (λ met. IsTrue met ↔ MeetsAs c uri)) (sym is) found
