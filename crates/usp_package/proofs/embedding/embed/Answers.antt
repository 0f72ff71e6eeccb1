use Rattle.std.proofs.Common.{ℕ, List, ap, ◌∙◌}
use Rattle.std.specs.Option.{option_copied}
use Rattle.usp_uri.specs.Components.{query_in}
use Rattle.usp_package.specs.Package.{embedded}
use Rattle.usp_package.proofs.EmbedLaws.{embedded_again, embedded_normal, length-embedded}
use Rattle.usp_package.proofs.embedding.embed.Goals as goal

pub returns-clause-text : goal.returns-clause-text
returns-clause-text c =
    c.in_ok-text.ensures ∙ ap (λ (n : List ℕ). embedded n c.text-2.result.now (option_copied c.query.result) c.args.token.now) c.text.ensures.value
    ∙ ap (λ (u : List ℕ). embedded c.args.name.now u (option_copied c.query.result) c.args.token.now) c.text-2.ensures.value ∙ ap (λ q. embedded c.args.name.now c.args.uri.now q c.args.token.now) c.query.ensures

pub returns-clause-back : goal.returns-clause-back
returns-clause-back c =
    embedded_again c.args.name.now c.args.uri.now c.args.token.now c.text.ensures.name c.text-2.ensures.normal c.requires.run c.requires.none c.in_ok-text.text.items (returns-clause-text c)

pub returns-clause-normal : goal.returns-clause-normal
returns-clause-normal c = embedded_normal c.args.name.now c.args.uri.now c.args.token.now c.text.ensures.name c.text-2.ensures.normal c.requires.run c.in_ok-text.text.items (returns-clause-text c)

pub returns-clause-length : goal.returns-clause-length
returns-clause-length c = length-embedded c.args.name.now c.args.uri.now c.args.token.now (query_in c.args.uri.now) c.in_ok-text.text.items (returns-clause-text c)
