use Rattle.std.proofs.Common.{rules, inl, inr, refl}
use Rattle.cfb_findings.proofs.streams.note.Goals as goal

pub returns-then-is_whole-clause-noted : goal.returns-then-is_whole-clause-noted
returns-then-is_whole-clause-noted g c = λ file_len tells. inl ((c.if-is_whole.ensures file_len tells).0 refl, refl)

pub returns-clause-noted : goal.returns-clause-noted
returns-clause-noted g c = λ file_len tells. inr ((λ whole. let wrong = (c.if-is_whole.ensures file_len tells).1 whole in absurd (cc)), search rules)
