use Rattle.std.proofs.Common.{◌≡◌, ◌∙◌, false, subst, sym, true}
use Rattle.msi_pool.specs.PoolKept.{IsWritable}
use Rattle.msi.specs.Opened.{SummaryIsFit}
use Rattle.msi.proofs.package.Package.texts_fit.Goals as goal

pub returns-then-is_writable : goal.returns-then-is_writable
returns-then-is_writable g c = λ P h. (
  λ yes.
      let told = c.is_writable-then-is_writable.ensures.0 yes in record {
        pool = subst IsWritable h.memory.pool (c.is_writable.ensures.0 c.if-is_writable.true);
        summary = subst SummaryIsFit h.memory.summary (record { writable = told.0; format = told.1 });
      },
  λ fit. let s = subst SummaryIsFit (sym h.memory.summary) fit.summary in c.is_writable-then-is_writable.ensures.1 (s.writable, s.format),
)

pub returns-else-is_writable : goal.returns-else-is_writable
returns-else-is_writable g c = λ P h. (
  λ yes. absurd (let never : false ≡ true = sym c.if-is_writable.false ∙ yes in cc),
  λ fit. c.is_writable.ensures.1 (subst IsWritable (sym h.memory.pool) fit.pool),
)
