use Rattle.std.proofs.Common.{◌∙◌, ap, arith, inl, inr, option_map, refl}
use Rattle.cfb.specs.Views.{file_case_table, mini_of}
use Rattle.cfb_mini.specs.Views.{allocator_of}
use Rattle.msi_pool.specs.PoolReading.{pool_of}
use Rattle.msi_spec.specs.Package.{data_name, stream_name}
use Rattle.msi_stored.specs.Shown.{bytes_in}
use Rattle.msi_store.proofs.PartsRead.{built_missing, err_cause}
use Rattle.msi_store.proofs.Refusals.{pool_refuses}
use Rattle.msi_store.proofs.Told.{lost_part}
use Rattle.msi_store.proofs.ErrorKinds.{err_kind, read_kind}
use Rattle.msi_store.proofs.parts.built_of.Goals as goal

pub returns-in-Ok-Some-clause-cause : goal.returns-in-Ok-Some-clause-cause
returns-in-Ok-Some-clause-cause g c =
    let bytes = c.deref.result.now in
    err_cause (allocator_of (mini_of c.args.file.now)) (allocator_of (mini_of c.table_bytes.new.file)) c.built_from.result (pool_of c.args.builder bytes) (pool_refuses c.args.builder bytes) c.built_from.ensures.errors

pub returns-in-Ok-None-clause-shown : goal.returns-in-Ok-None-clause-shown
returns-in-Ok-None-clause-shown g c tree shown =
    inr (built_missing (file_case_table c.args.file.now) tree c.args.builder (c.in-Ok-None.ensures.shown tree shown ∙ ap (option_map (λ bytes. bytes.items)) c.in-Ok-None.field-0-is))

pub returns-in-Err-clause-shown : goal.returns-in-Err-clause-shown
returns-in-Err-clause-shown g c tree shown =
    inl (lost_part (file_case_table c.args.file.now) (bytes_in c.args.file.now) (stream_name data_name) (2, omega arith, refl) c.in-Err.error (c.in-Err.ensures.shown tree shown))

pub returns-in-Ok-Some-clause-errors : goal.returns-in-Ok-Some-clause-errors
returns-in-Ok-Some-clause-errors g c = let bytes = c.deref.result.now in err_kind c.built_from.result (pool_of c.args.builder bytes) (pool_refuses c.args.builder bytes) c.built_from.ensures.errors

pub returns-in-Err-clause-errors : goal.returns-in-Err-clause-errors
returns-in-Err-clause-errors g c = read_kind c.in-Err.error c.in-Err.ensures.errors
