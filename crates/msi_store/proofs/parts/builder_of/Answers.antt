use Rattle.std.proofs.Common.{◌∙◌, ap, arith, inl, inr, option_map, refl}
use Rattle.cfb.specs.Views.{file_case_table, mini_of}
use Rattle.cfb_mini.specs.Views.{allocator_of}
use Rattle.msi_pool.specs.PoolReading.{begun}
use Rattle.msi_spec.specs.Package.{pool_name, stream_name}
use Rattle.msi_stored.specs.Shown.{bytes_in}
use Rattle.msi_store.proofs.PartsRead.{answer_cause, builder_missing}
use Rattle.msi_store.proofs.Refusals.{begun_refuses}
use Rattle.msi_store.proofs.Told.{lost_part}
use Rattle.msi_store.proofs.ErrorKinds.{answer_kind, read_kind}
use Rattle.msi_store.proofs.parts.builder_of.Goals as goal

pub returns-in-Ok-Some-clause-cause : goal.returns-in-Ok-Some-clause-cause
returns-in-Ok-Some-clause-cause g c =
    let bytes = c.deref.result.now in
    answer_cause (allocator_of (mini_of c.args.file.now)) (allocator_of (mini_of c.table_bytes.new.file)) (λ b. b) c.builder_from.result (begun bytes) (begun_refuses bytes) c.builder_from.ensures.read

pub returns-in-Ok-None-clause-shown : goal.returns-in-Ok-None-clause-shown
returns-in-Ok-None-clause-shown g c tree shown =
    inr (builder_missing (file_case_table c.args.file.now) tree (c.in-Ok-None.ensures.shown tree shown ∙ ap (option_map (λ bytes. bytes.items)) c.in-Ok-None.field-0-is))

pub returns-in-Err-clause-shown : goal.returns-in-Err-clause-shown
returns-in-Err-clause-shown g c tree shown =
    inl (lost_part (file_case_table c.args.file.now) (bytes_in c.args.file.now) (stream_name pool_name) (1, omega arith, refl) c.in-Err.error (c.in-Err.ensures.shown tree shown))

pub returns-in-Ok-Some-clause-errors : goal.returns-in-Ok-Some-clause-errors
returns-in-Ok-Some-clause-errors g c = let bytes = c.deref.result.now in answer_kind (λ b. b) c.builder_from.result (begun bytes) (begun_refuses bytes) c.builder_from.ensures.read

pub returns-in-Err-clause-errors : goal.returns-in-Err-clause-errors
returns-in-Err-clause-errors g c = read_kind c.in-Err.error c.in-Err.ensures.errors
