use Rattle.std.proofs.Common.{◌++◌, Ok, arith, ap, sym, ◌∙◌}
use Rattle.msi_texts.specs.Results.{◌>>=◌}
use Rattle.msi_pool.specs.PoolReading.{heads_at}
use Rattle.msi_pool.proofs.PoolHeads.{heads_step, heads_refused, heads_end, head_at-rest}
use Rattle.reread_texts.proofs.heads.read_heads.Goals as goal

pub returns-in_err-read_head : goal.returns-in_err-read_head
returns-in_err-read_head c =
    let whole = c.loop-rest.invariant.2 ∙ heads_refused c.loop-rest.invariant.0 c.loop-rest.rest.now c.in_err-read_head.field-0.0 c.loop-rest.heads.items c.loop-rest.invariant.1 (omega arith) c.in_err-read_head.ensures.errors in
    grind (arith, whole)

pub loop-rest-preserved : goal.loop-rest-preserved
loop-rest-preserved c =
    let step = heads_step c.loop-rest.invariant.0 c.loop-rest.rest.now c.read_head.new.reader.now c.in_ok-read_head.field-0 c.loop-rest.heads.items c.loop-rest.invariant.1 (omega arith) c.in_ok-read_head.ensures.ok in
    (step.0, step.1, c.loop-rest.invariant.2 ∙ step.2 ∙ ap (λ items. heads_at step.0 c.read_head.new.reader.now >>= λ more. Ok (items ++ more)) (sym c.in_ok-push.ensures.items))

pub loop-rest-smaller : goal.loop-rest-smaller
loop-rest-smaller c = let less = head_at-rest c.loop-rest.rest.now c.read_head.new.reader.now c.in_ok-read_head.field-0 c.in_ok-read_head.ensures.ok in omega arith

pub returns : goal.returns
returns c = c.loop-rest.invariant.2 ∙ heads_end c.loop-rest.invariant.0 c.loop-rest.rest.now c.loop-rest.heads.items c.loop-rest-test.false
