use Rattle.std.proofs.Common.{◌≡◌, ◌∙◌, ◌++◌, ◌∷◌, [], ℕ, List, ap}
use Rattle.std.specs.Global.{Vec}
use Rattle.usp_trace.proofs.IndexLemmas.{place_added}
use Rattle.usp_trace.specs.Index.{Indexed, by_bytes, place_under}
use Rattle.usp_trace.proofs.first_places.FirstPlaces.enter.Goals as goal

pub returns-in-Some : goal.returns-in-Some
returns-in-Some c =
    let token = c.in-Some.token in
    let entries = rw c.unwrap.ensures at c.insert.ensures.entries in
    let view : by_bytes c.self.inside.table.entries ≡ c.args.self.now.places = ap (λ (v : Indexed). v.places) c.self.view_is in
    let fresh = rw c.in-Some.is at c.requires.fresh in
    rw c.in-Some.is (ap (λ (es : List (Vec ℕ × ℕ)). by_bytes es) entries
    ∙ (place_added token c.args.place c.self.inside.table.entries (ap (λ (ps : List (List ℕ × ℕ)). place_under token.items ps) view ∙ fresh)
    ∙ ap (λ (ps : List (List ℕ × ℕ)). ps ++ (token.items, c.args.place) ∷ []) view))
