use Rattle.std.proofs.Common.{inl, inr, subst, sym}
use Rattle.cfb.proofs.Holding.{holds_shown}
use Rattle.cfb_medium.specs.Calls.{IsFaultOrInvalidInputIf}
use Rattle.msi.specs.Opened.{file_in}
use Rattle.msi.proofs.package.Package.select_rows.Goals as goal

pub returns-in-Err-clause-answer : goal.returns-in-Err-clause-answer
returns-in-Err-clause-answer g c P h = elim (c.in-Err.ensures.answer h.file.live h.tree (holds_shown (file_in c.args.self.now) h.tree h.file)).1 [
  | inl memory ↦ inl (subst (IsFaultOrInvalidInputIf ⊥) (sym memory) tt)
  | inr answer ↦ absurd (cc)
]

pub returns-in-Err-clause-read : goal.returns-in-Err-clause-read
returns-in-Err-clause-read g c tree held = elim (c.in-Err.ensures.answer held.live tree (holds_shown (file_in c.args.self.now) tree held)).1 [
  | inl memory ↦ inl (subst (IsFaultOrInvalidInputIf ⊥) (sym memory) tt)
  | inr answer ↦ absurd (cc)
]
