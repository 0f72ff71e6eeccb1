use Rattle.std.proofs.Common.{◌≡◌, ◌∙◌, ap, map}
use Rattle.usp_base.specs.Blanks.{trim_blanks}
use Rattle.usp_rules.specs.Critical.{are_understood, names_in}
use Rattle.usp_rules.proofs.Wanted.{mapped_twice}
use Rattle.usp_rules.proofs.critical.are_understood.Goals as goal

pub returns : goal.returns
returns g c =
    let same : map (λ part. trim_blanks part.now) c.deref.result.now ≡ names_in c.args.text.now =
    mapped_twice trim_blanks (λ part. part.now) c.deref.result.now
    ∙ ap (map trim_blanks) (ap (map (λ part. part.now)) c.deref.ensures.value ∙ c.in_ok-parts.ensures) in
    c.are_all_understood.ensures ∙ ap (are_understood c.args.critical.now.extensions.now c.args.critical.now.facts.path.now c.args.critical.now.claims.now) same
