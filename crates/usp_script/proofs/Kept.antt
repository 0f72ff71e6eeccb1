-- A generated script keeps what each script keeps.
use Rattle.std.proofs.Common.{◌≡◌, ℕ, zero, suc, ◌+◌, ◌*◌, ◌<◌, ◌≤◌, List, [], ◌∷◌, ◌++◌, length, refl, sym, subst, arith}
use Rattle.std.specs.Prelude.{All}
use Rattle.std.proofs.lemmas.List.Elements.{All-append, All-cons, All-from_recursion, All-nil}
use Rattle.usp_conf.specs.Values.{ConfValue, IsConf}
use Rattle.usp_package.specs.Package.{nothing, package_of}
use Rattle.usp_script.specs.Generator.{ask_round, grant_token, groups_from, list_uri, rounds_of, segment_uri, sent_uri, target_uri}
use Rattle.usp_script.specs.Script.{IsAsk, IsBare, IsRound, IsScript, asks_in, attribute_of, script}
use Rattle.usp_script.specs.declared.ask.Carried.{Carried}
use Rattle.usp_script.specs.declared.ask.Carried.TheVariants.{InCookie, InQuery, Nothing}
use Rattle.usp_script.specs.declared.ask.LabObject.{LabObject}
use Rattle.usp_script.specs.declared.ask.Label.TheVariants.{Granted, Issued}
use Rattle.usp_script.specs.declared.ask.Round.{Round}
use Rattle.usp_script.proofs.Grants.{token_short}

-- ---- the two URIs that carry a token in their query have no package, whatever its name

list_bare : (attribute : List ℕ) → package_of attribute list_uri ≡ nothing
unfolding package_of
list_bare attribute = refl

target_bare : (attribute : List ℕ) → package_of attribute target_uri ≡ nothing
unfolding package_of
target_bare attribute = refl

-- ---- rounds

abbrev IsShort : List ℕ → Type 0
IsShort token = length token ≤ 7400

abbrev IsKept : (a b : ConfValue) → Round → Type 0
IsKept a b = IsRound (a ∷ b ∷ [])

at_a : (a b : ConfValue) (grants : List (List ℕ)) (moment : ℕ) (uri : List ℕ) (carried : Carried) → All IsShort grants → moment < 2000000
    → IsBare (attribute_of a) uri carried → IsKept a b (ask_round grants 0 moment uri carried)
at_a a b grants moment uri carried short early bare = record {
  asks = All-cons (IsAsk (a ∷ b ∷ [])) (record { edge = 0; moment = moment; uri = uri; carried = carried }) [] (record { edge = omega arith; moment = omega arith; bare = bare }) (All-nil (IsAsk (a ∷ b ∷ [])));
  grants = short;
}

at_b : (a b : ConfValue) (moment : ℕ) (uri : List ℕ) (carried : Carried) → moment < 2000000
    → IsBare (attribute_of b) uri carried → IsKept a b (ask_round [] 1 moment uri carried)
at_b a b moment uri carried early bare = record {
  asks = All-cons (IsAsk (a ∷ b ∷ [])) (record { edge = 1; moment = moment; uri = uri; carried = carried }) [] (record { edge = omega arith; moment = omega arith; bare = bare }) (All-nil (IsAsk (a ∷ b ∷ [])));
  grants = All-nil IsShort;
}

-- a cookie at the first edge
by_cookie : (a b : ConfValue) (moment : ℕ) (uri : List ℕ) (number : ℕ) → moment < 2000000 → IsKept a b (ask_round [] 0 moment uri (InCookie (Issued number)))
by_cookie a b moment uri number early = at_a a b [] moment uri (InCookie (Issued number)) (All-nil IsShort) early tt

to_target : (a b : ConfValue) (moment number : ℕ) → moment < 2000000 → IsKept a b (ask_round [] 1 moment target_uri (InQuery (Issued number)))
to_target a b moment number early = at_b a b moment target_uri (InQuery (Issued number)) early (target_bare (attribute_of b))

from_list : (a b : ConfValue) (group moment number : ℕ) → group < 10000 → moment < 2000000 → IsKept a b (ask_round (grant_token group moment ∷ []) 0 moment list_uri (InQuery (Granted number)))
from_list a b group moment number small early =
    at_a a b (grant_token group moment ∷ []) moment list_uri (InQuery (Granted number))
    (All-cons IsShort (grant_token group moment) [] (token_short group moment (omega arith) (omega arith)) (All-nil IsShort)) early (list_bare (attribute_of a))

without : (a b : ConfValue) (moment : ℕ) → moment < 2000000 → IsKept a b (ask_round [] 0 moment list_uri Nothing)
without a b moment early = at_a a b [] moment list_uri Nothing (All-nil IsShort) early tt

group_kept : (a b : ConfValue) (group : ℕ) → group < 10000 → All (IsKept a b) (rounds_of group)
group_kept a b group small =
    All-from_recursion (IsKept a b) (rounds_of group) (
      from_list a b group (1000 + 100 * group) (group + 1) small (omega arith),
      (
        by_cookie a b (1000 + 100 * group + 5) (segment_uri 1) (10 * group + 1) (omega arith),
        (
          by_cookie a b (1000 + 100 * group + 10) (segment_uri 2) (10 * group + 2) (omega arith),
          (
            by_cookie a b (1000 + 100 * group + 15) (segment_uri 3) (10 * group + 3) (omega arith),
            (
              by_cookie a b (1000 + 100 * group + 20) (segment_uri 4) (10 * group + 4) (omega arith),
              (
                by_cookie a b (1000 + 100 * group + 25) (segment_uri 5) (10 * group + 5) (omega arith),
                (
                  by_cookie a b (1000 + 100 * group + 30) sent_uri (10 * group + 6) (omega arith),
                  (
                    to_target a b (1000 + 100 * group + 35) (10 * group + 7) (omega arith),
                    (
                      to_target a b (1000 + 100 * group + 36) (10 * group + 7) (omega arith),
                      (
                        without a b (1000 + 100 * group + 40) (omega arith),
                        tt,
                      ),
                    ),
                  ),
                ),
              ),
            ),
          ),
        ),
      ),
    )

groups_kept : (a b : ConfValue) (first count : ℕ) → first + count ≤ 10000 → All (IsKept a b) (groups_from first count)
groups_kept a b first zero few = All-nil (IsKept a b)
groups_kept a b first (suc count) few =
    All-append (IsKept a b) (rounds_of first) (groups_from (first + 1) count) (group_kept a b first (omega arith)) (groups_kept a b (first + 1) count (omega arith))

-- ---- how many asks they have

asks_in-append : (rounds more : List Round) → asks_in (rounds ++ more) ≡ asks_in rounds + asks_in more
asks_in-append [] more = omega arith
asks_in-append (round ∷ rounds) more = let others = asks_in-append rounds more in omega arith

groups_asks : (first count : ℕ) → asks_in (groups_from first count) ≡ 10 * count
groups_asks first zero = omega arith
groups_asks first (suc count) =
    let both = asks_in-append (rounds_of first) (groups_from (first + 1) count) in
    let others = groups_asks (first + 1) count in
    omega arith

-- ---- the script

generated_kept : (a b : ConfValue) (objects : List LabObject) (groups : ℕ) → groups ≤ 10000 → All IsConf (a ∷ b ∷ [])
    → IsScript (script (a ∷ b ∷ []) objects [] (groups_from 0 groups))
generated_kept a b objects groups few confs = record {
  edges = omega arith;
  confs = confs;
  rounds = groups_kept a b 0 groups (omega arith);
  few = let count = groups_asks 0 groups in omega arith;
  outsides = All-nil IsShort;
}

pub kept : (edges : List ConfValue) (objects : List LabObject) (outsides : List (List ℕ)) (rounds : List Round) (a b : ConfValue) (groups : ℕ)
    → groups ≤ 10000 → All IsConf edges → edges ≡ a ∷ b ∷ [] → outsides ≡ [] → rounds ≡ groups_from 0 groups → IsScript (script edges objects outsides rounds)
kept edges objects outsides rounds a b groups few confs two none all =
    rw (two, none, all) (generated_kept a b objects groups few (subst (All IsConf) two confs))

-- of a configuration and another each is one
pub two_confs : (edges : List ConfValue) (a b : ConfValue) → IsConf a → IsConf b → edges ≡ a ∷ b ∷ [] → All IsConf edges
two_confs edges a b one other is =
    subst (All IsConf) (sym is) (All-cons IsConf a (b ∷ []) one (All-cons IsConf b [] other (All-nil IsConf)))
