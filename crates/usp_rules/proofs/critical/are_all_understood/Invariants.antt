use Rattle.std.proofs.Common.{◌≡◌, drop, map}
use Rattle.std.specs.List.{list_all}
use Rattle.usp_base.specs.Blanks.{trim_blanks}
use Rattle.usp_rules.specs.Critical.{is_understood}
use Rattle.usp_rules.proofs.critical.are_all_understood.Given as goal

-- the names so far are understood
abbrev pub invariant-loop-i : goal.invariant-loop-i
invariant-loop-i g l =
    list_all (λ part. is_understood l.critical.extensions.now l.critical.facts.path.now l.critical.claims.now (map (λ part. trim_blanks part.now) l.parts) (trim_blanks part.now)) l.parts
    ≡ list_all (λ part. is_understood l.critical.extensions.now l.critical.facts.path.now l.critical.claims.now (map (λ part. trim_blanks part.now) l.parts) (trim_blanks part.now)) (drop l.i l.parts)
