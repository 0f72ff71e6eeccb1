use Rattle.std.proofs.Common.{subst, sym, ◌∙◌}
use Rattle.usp_package.proofs.UniqueLaws.{package_of_only}
use Rattle.usp_package.specs.Package.{Finds}
use Rattle.usp_package.proofs.FindLaws.{package_of_finds}
use Rattle.usp_package.proofs.finding.find.Goals as goal

pub returns-clause-found : goal.returns-clause-found
returns-clause-found c = subst (λ p. Finds c.args.name.now c.args.uri.now p) (sym c.find_package.ensures) (package_of_finds c.args.name.now c.args.uri.now)

pub returns-clause-only : goal.returns-clause-only
returns-clause-only c = λ other finds. c.find_package.ensures ∙ package_of_only c.args.name.now c.args.uri.now other finds
