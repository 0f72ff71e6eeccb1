use Rattle.std.proofs.Common.{◌≡◌, ℕ, List, Ok, sym, subst}
use Rattle.usp_uri.specs.Faults.{normal_of}
use Rattle.usp_script.proofs.Uris.{segment_normal}
use Rattle.usp_script.proofs.generator.uris.segment_uri.Goals as goal

pub uri_of-requires : goal.uri_of-requires
uri_of-requires c = subst (λ (text : List ℕ). normal_of text ≡ Ok text) (sym c.segment_text.ensures) (segment_normal c.args.number c.requires.0 c.requires.1)
