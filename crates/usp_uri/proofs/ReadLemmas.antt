-- A text at which no fault is found has none.
use Rattle.std.proofs.Common.{◌≡◌, ℕ, ◌≤◌, List, length, None, refl}
use Rattle.std.proofs.lemmas.Bool.{le-ltb}
use Rattle.usp_uri.specs.declared.limits.TheConstants.{MAX_LEN}
use Rattle.usp_uri.specs.Faults.{text_fault, scheme_fault, userinfo_fault, host_fault, port_fault, rest_fault}

pub no_fault : (text : List ℕ) → length text ≤ MAX_LEN → scheme_fault text ≡ None → userinfo_fault text ≡ None → host_fault text ≡ None
    → port_fault text ≡ None → rest_fault text ≡ None → text_fault text ≡ None
no_fault text short a b c d e = rw (le-ltb MAX_LEN (length text) short, a, b, c, d, e) refl
