use Rattle.std.proofs.Common.{◌≡◌, ◌∙◌, sym, ap, ap₂, rules, subst, Err, Ok}
use Rattle.msi_expr.specs.Formula.{formula_of}
use Rattle.msi_query.proofs.Sourced.{first_refused, second_refused, then_both}
use Rattle.msi_query.specs.Answered.{answered}
use Rattle.msi_query.specs.Query.{Source, inner_join, inner_joined, left_join, left_joined, selected, source_rows}
use Rattle.msi_query.specs.Said.{query_of, source_of}
use Rattle.msi_query.specs.Sources.{AnswersOf, TablesByName}
use Rattle.msi_texts.specs.Results.{◌>>=◌}
use Rattle.msi_query.proofs.select.+applied.Goals as goal

pub Join::found_rows-returns-in_ok-second-in-Inner-clause-answer : goal.Join::found_rows-returns-in_ok-second-in-Inner-clause-answer
Join::found_rows-returns-in_ok-second-in-Inner-clause-answer g t c =
    let pool = c.args.pool.now.pool in
    let left = c.deref-in-Inner.result.now in
    let right = c.deref-in-Inner-2.result.now in
    let on = formula_of c.in-Inner.on in
    let P : Source → Type 0 =
    λ s. AnswersOf (g.S.TableSource.has_tables c.args.source.now) (g.S.TableSource.has_cause c.args.source.now c.apply-in-Inner.new.source) answered c.inner_joined.result (λ tables. source_rows tables pool s) in
    let joined : source_of c.args.self.now ≡ inner_join (query_of left) (query_of right) on =
    ap source_of c.in-Inner.is ∙ ap₂ (λ x y. inner_join (query_of x) (query_of y) on) (sym c.deref-in-Inner.ensures) (sym c.deref-in-Inner-2.ensures) in
    let later : (tables : TablesByName) → g.S.TableSource.has_tables c.args.source.now tables → selected tables pool (query_of right) ≡ Ok (answered c.in_ok-second-in-Inner.second) =
    λ tables has. c.in_ok-second-in-Inner.ensures.answer tables (g.met.S.TableSource.rests_keeps _ _ tables c.in_ok-first-in-Inner.ensures.only_reads has) in
    subst P (sym joined)
    (then_both (g.S.TableSource.has_tables c.args.source.now) (g.S.TableSource.has_cause c.args.source.now c.apply-in-Inner.new.source) answered c.inner_joined.result
    (λ tables. selected tables pool (query_of left)) (λ tables. selected tables pool (query_of right)) (inner_joined pool on)
    (answered c.in_ok-first-in-Inner.first) (answered c.in_ok-second-in-Inner.second) c.in_ok-first-in-Inner.ensures.answer later c.inner_joined.ensures.answer c.inner_joined.ensures.kind)

pub Join::found_rows-returns-in_ok-second-in-Left-clause-answer : goal.Join::found_rows-returns-in_ok-second-in-Left-clause-answer
Join::found_rows-returns-in_ok-second-in-Left-clause-answer g t c =
    let pool = c.args.pool.now.pool in
    let left = c.deref-in-Left.result.now in
    let right = c.deref-in-Left-2.result.now in
    let on = formula_of c.in-Left.on in
    let P : Source → Type 0 =
    λ s. AnswersOf (g.S.TableSource.has_tables c.args.source.now) (g.S.TableSource.has_cause c.args.source.now c.apply-in-Left-2.new.source) answered c.left_joined.result (λ tables. source_rows tables pool s) in
    let joined : source_of c.args.self.now ≡ left_join (query_of left) (query_of right) on =
    ap source_of c.in-Left.is ∙ ap₂ (λ x y. left_join (query_of x) (query_of y) on) (sym c.deref-in-Left.ensures) (sym c.deref-in-Left-2.ensures) in
    let later : (tables : TablesByName) → g.S.TableSource.has_tables c.args.source.now tables → selected tables pool (query_of right) ≡ Ok (answered c.in_ok-second-in-Left.second) =
    λ tables has. c.in_ok-second-in-Left.ensures.answer tables (g.met.S.TableSource.rests_keeps _ _ tables c.in_ok-first-in-Left.ensures.only_reads has) in
    subst P (sym joined)
    (then_both (g.S.TableSource.has_tables c.args.source.now) (g.S.TableSource.has_cause c.args.source.now c.apply-in-Left-2.new.source) answered c.left_joined.result
    (λ tables. selected tables pool (query_of left)) (λ tables. selected tables pool (query_of right)) (left_joined pool on)
    (answered c.in_ok-first-in-Left.first) (answered c.in_ok-second-in-Left.second) c.in_ok-first-in-Left.ensures.answer later c.left_joined.ensures.answer c.left_joined.ensures.kind)

pub Join::found_rows-returns-in_err-first-in-Inner-clause-answer : goal.Join::found_rows-returns-in_err-first-in-Inner-clause-answer
Join::found_rows-returns-in_err-first-in-Inner-clause-answer g t c =
    let pool = c.args.pool.now.pool in
    let left = c.deref-in-Inner.result.now in
    let right = c.in-Inner.right.value in
    let on = formula_of c.in-Inner.on in
    let e = c.in_err-first-in-Inner.field-0.0 in
    let has = g.S.TableSource.has_tables c.args.source.now in
    let is_fault = g.S.TableSource.has_cause c.args.source.now c.apply.new.source in
    let P : Source → Type 0 = λ s. AnswersOf has is_fault answered c.from_residual.result (λ tables. source_rows tables pool s) in
    let joined : source_of c.args.self.now ≡ inner_join (query_of left) (query_of right) on =
    ap source_of c.in-Inner.is ∙ ap (λ x. inner_join (query_of x) (query_of right) on) (sym c.deref-in-Inner.ensures) in
    let refused : c.from_residual.result ≡ Err e = search (rules, c.from_residual.ensures) in
    subst P (sym joined)
    (subst (λ r. AnswersOf has is_fault answered r (λ tables. source_rows tables pool (inner_join (query_of left) (query_of right) on))) (sym refused)
    (first_refused has is_fault answered answered e (λ tables. selected tables pool (query_of left)) (λ tables a. selected tables pool (query_of right) >>= λ b. inner_joined pool on a b)
    c.in_err-first-in-Inner.ensures.answer))

pub Join::found_rows-returns-in_err-second-in-Inner-clause-answer : goal.Join::found_rows-returns-in_err-second-in-Inner-clause-answer
Join::found_rows-returns-in_err-second-in-Inner-clause-answer g t c =
    let pool = c.args.pool.now.pool in
    let left = c.deref-in-Inner.result.now in
    let right = c.deref-in-Inner-2.result.now in
    let on = formula_of c.in-Inner.on in
    let e = c.in_err-second-in-Inner.field-0.0 in
    let rests = c.in_ok-first-in-Inner.ensures.only_reads in
    let has = g.S.TableSource.has_tables c.args.source.now in
    let is_fault = g.S.TableSource.has_cause c.args.source.now c.apply-in-Inner.new.source in
    let P : Source → Type 0 = λ s. AnswersOf has is_fault answered c.from_residual-in_err-second-in-Inner.result (λ tables. source_rows tables pool s) in
    let joined : source_of c.args.self.now ≡ inner_join (query_of left) (query_of right) on =
    ap source_of c.in-Inner.is ∙ ap₂ (λ x y. inner_join (query_of x) (query_of y) on) (sym c.deref-in-Inner.ensures) (sym c.deref-in-Inner-2.ensures) in
    let refused : c.from_residual-in_err-second-in-Inner.result ≡ Err e = search (rules, c.from_residual-in_err-second-in-Inner.ensures) in
    subst P (sym joined)
    (subst (λ r. AnswersOf has is_fault answered r (λ tables. source_rows tables pool (inner_join (query_of left) (query_of right) on))) (sym refused)
    (second_refused has (g.S.TableSource.has_tables c.apply.new.source) is_fault (g.S.TableSource.has_cause c.apply.new.source c.apply-in-Inner.new.source) answered answered e
    (λ tables. selected tables pool (query_of left)) (λ tables. selected tables pool (query_of right)) (inner_joined pool on) (answered c.in_ok-first-in-Inner.first)
    (λ tables has. g.met.S.TableSource.rests_keeps _ _ tables rests has) (λ fault. g.met.S.TableSource.rests_cause _ _ _ e rests fault)
    c.in_ok-first-in-Inner.ensures.answer c.in_err-second-in-Inner.ensures.answer))

pub Join::found_rows-returns-in_err-first-in-Left-clause-answer : goal.Join::found_rows-returns-in_err-first-in-Left-clause-answer
Join::found_rows-returns-in_err-first-in-Left-clause-answer g t c =
    let pool = c.args.pool.now.pool in
    let left = c.deref-in-Left.result.now in
    let right = c.in-Left.right.value in
    let on = formula_of c.in-Left.on in
    let e = c.in_err-first-in-Left.field-0.0 in
    let has = g.S.TableSource.has_tables c.args.source.now in
    let is_fault = g.S.TableSource.has_cause c.args.source.now c.apply-in-Left.new.source in
    let P : Source → Type 0 = λ s. AnswersOf has is_fault answered c.from_residual-in_err-first-in-Left.result (λ tables. source_rows tables pool s) in
    let joined : source_of c.args.self.now ≡ left_join (query_of left) (query_of right) on =
    ap source_of c.in-Left.is ∙ ap (λ x. left_join (query_of x) (query_of right) on) (sym c.deref-in-Left.ensures) in
    let refused : c.from_residual-in_err-first-in-Left.result ≡ Err e = search (rules, c.from_residual-in_err-first-in-Left.ensures) in
    subst P (sym joined)
    (subst (λ r. AnswersOf has is_fault answered r (λ tables. source_rows tables pool (left_join (query_of left) (query_of right) on))) (sym refused)
    (first_refused has is_fault answered answered e (λ tables. selected tables pool (query_of left)) (λ tables a. selected tables pool (query_of right) >>= λ b. left_joined pool on a b)
    c.in_err-first-in-Left.ensures.answer))

pub Join::found_rows-returns-in_err-second-in-Left-clause-answer : goal.Join::found_rows-returns-in_err-second-in-Left-clause-answer
Join::found_rows-returns-in_err-second-in-Left-clause-answer g t c =
    let pool = c.args.pool.now.pool in
    let left = c.deref-in-Left.result.now in
    let right = c.deref-in-Left-2.result.now in
    let on = formula_of c.in-Left.on in
    let e = c.in_err-second-in-Left.field-0.0 in
    let rests = c.in_ok-first-in-Left.ensures.only_reads in
    let has = g.S.TableSource.has_tables c.args.source.now in
    let is_fault = g.S.TableSource.has_cause c.args.source.now c.apply-in-Left-2.new.source in
    let P : Source → Type 0 = λ s. AnswersOf has is_fault answered c.from_residual-in_err-second-in-Left.result (λ tables. source_rows tables pool s) in
    let joined : source_of c.args.self.now ≡ left_join (query_of left) (query_of right) on =
    ap source_of c.in-Left.is ∙ ap₂ (λ x y. left_join (query_of x) (query_of y) on) (sym c.deref-in-Left.ensures) (sym c.deref-in-Left-2.ensures) in
    let refused : c.from_residual-in_err-second-in-Left.result ≡ Err e = search (rules, c.from_residual-in_err-second-in-Left.ensures) in
    subst P (sym joined)
    (subst (λ r. AnswersOf has is_fault answered r (λ tables. source_rows tables pool (left_join (query_of left) (query_of right) on))) (sym refused)
    (second_refused has (g.S.TableSource.has_tables c.apply-in-Left.new.source) is_fault (g.S.TableSource.has_cause c.apply-in-Left.new.source c.apply-in-Left-2.new.source) answered answered e
    (λ tables. selected tables pool (query_of left)) (λ tables. selected tables pool (query_of right)) (left_joined pool on) (answered c.in_ok-first-in-Left.first)
    (λ tables has. g.met.S.TableSource.rests_keeps _ _ tables rests has) (λ fault. g.met.S.TableSource.rests_cause _ _ _ e rests fault)
    c.in_ok-first-in-Left.ensures.answer c.in_err-second-in-Left.ensures.answer))
