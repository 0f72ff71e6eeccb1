-- A line that holds a head.
use Rattle.std.proofs.Common.{◌≡◌, ℕ, ◌<◌, List, [], length, Option, Some, get_or, slice_get, sym, ap, ◌∙◌, subst}
use Rattle.std.proofs.lemmas.Option.{slice_get-get_or}
use Rattle.usp_conf.specs.Values.{ConfValue}
use Rattle.usp_http.specs.Finding.{IsHead}
use Rattle.usp_package.specs.Package.{nothing, package_of}
use Rattle.usp_script.specs.Script.{IsBare}
use Rattle.usp_script.specs.declared.ask.Carried.{Carried}
use Rattle.usp_script.specs.declared.ask.Carried.TheVariants.{InCookie, InQuery, Nothing}
use Rattle.usp_script.specs.declared.ask.LabAsk.{LabAsk}
use Rattle.usp_lab.specs.Asking.{HasHead, HoldsHead}
use Rattle.usp_lab.specs.LabHead.{lab_parts}

-- a URI without a package is bare
pub bare_of : (name uri : List ℕ) (carried : Carried) → package_of name uri ≡ nothing → IsBare name uri carried
bare_of name uri Nothing none = tt
bare_of name uri (InQuery label) none = none
bare_of name uri (InCookie label) none = tt

-- a fresh line on which a head is to be read holds it
pub holds_of : (edges : List ConfValue) (ask : LabAsk) (edge other : ConfValue) (head : List ℕ) (left told : Option (List ℕ)) → ask.edge < length edges
    → edge ≡ get_or edges ask.edge other → HasHead edge ask head → left ≡ Some head → told ≡ Some []
    → (token : Option (List ℕ)) × HoldsHead edges ask token left told
holds_of edges ask edge other head left told below is has read fresh = (
  has.token,
  record {
    edge = edge;
    at = slice_get-get_or edges ask.edge other below ∙ ap Some (sym is);
    whole = subst (λ (t : List ℕ). IsHead (lab_parts edge ask has.token) t []) has.is has.whole;
    left = read ∙ ap Some has.is;
    fresh = fresh;
  },
)
