use Rattle.std.proofs.Common.{Bool, List, [], ◌∷◌, ℕ, ◌<◌, length, sym, subst, ◌∙◌, arith}
use Rattle.std.specs.Prelude.{IsTrue}
use Rattle.cfb_medium.specs.Bytes.{Serves}
use Rattle.staged.proofs.Judged.{first_told, log_told, none_open, blank}
use Rattle.staged.proofs.judging.is_log.Goals as goal

pub returns-then-eq-clause-answer : goal.returns-then-eq-clause-answer
returns-then-eq-clause-answer g c = λ honest.
    let after = subst (λ (b : Bool). IsTrue b) (sym c.len.ensures.honest) honest in
    let after_gate = subst (λ (b : Bool). IsTrue b) (sym c.read_at.ensures.honest) after in
    let log = g.F.ReadMedium.bytes c.args.file.now in
    let second = subst (λ (l : List ℕ). Serves l 1 blank c.read_at-2.new.buffer c.in_ok-read_at-2.field-0) (c.read_at.ensures.bytes after ∙ c.len.ensures.bytes honest) (c.in_ok-read_at-2.ensures.serves after_gate) in
    sym (first_told log c.read_at-2.new.buffer _ c.read_at-2.auto.buffer second (sym c.eq.ensures ∙ c.if-eq.true))

pub returns-clause-answer : goal.returns-clause-answer
returns-clause-answer g c = λ honest.
    let after = subst (λ (b : Bool). IsTrue b) (sym c.len.ensures.honest) honest in
    let after_gate = subst (λ (b : Bool). IsTrue b) (sym c.read_at.ensures.honest) after in
    let log = g.F.ReadMedium.bytes c.args.file.now in
    let first = subst (λ (l : List ℕ). Serves l 0 (1 ∷ []) c.read_at.new.buffer c.in_ok-read_at.field-0) (c.len.ensures.bytes honest) (c.in_ok-read_at.ensures.serves after) in
    let second = subst (λ (l : List ℕ). Serves l 1 blank c.read_at-2.new.buffer c.in_ok-read_at-2.field-0) (c.read_at.ensures.bytes after ∙ c.len.ensures.bytes honest) (c.in_ok-read_at-2.ensures.serves after_gate) in
    let some : 1 < length log = omega (arith, c.if-branch-le1.false, c.in_ok-len.ensures.length honest) in
    c.eq-2.ensures ∙ log_told log c.read_at.new.buffer c.read_at-2.new.buffer _ _ some first c.if-gate-eq0.false c.read_at-2.auto.buffer second (sym c.eq.ensures ∙ c.if-eq.false)

pub returns-clause-not_open : goal.returns-clause-not_open
returns-clause-not_open g c = λ honest never home. none_open home (g.F.ReadMedium.bytes c.args.file.now) (sym (returns-clause-answer g c honest) ∙ never)
