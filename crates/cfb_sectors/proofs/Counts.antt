-- The length of a sector, and faults without the refusals that can't come.
use Rattle.std.proofs.Common.{◌≤◌, arith}
use Rattle.std.specs.Prelude.{Result, Ok, Err, IfErr}
use Rattle.cfb_medium.specs.Calls.{IsFaultOrInvalidInputIf}
use Rattle.cfb_medium.specs.declared.error.Error.{Error}
use Rattle.cfb_medium.specs.declared.error.Error.TheVariants.{InvalidData, InvalidInput, NotFound, AlreadyExists, UnexpectedEof, Full, Memory, Device, Failed}
use Rattle.cfb_medium.specs.declared.version.Version.{Version}
use Rattle.cfb_medium.specs.declared.version.Version.TheVariants.{V3, V4}
use Rattle.cfb_medium.specs.Versions.{sector_len}

-- a refusal by a rule that can't hold is none
pub fault_only : (P : Type 0) (e : Error) → (P → ⊥) → IsFaultOrInvalidInputIf P e → IsFaultOrInvalidInputIf ⊥ e
fault_only P InvalidData never h = h
fault_only P InvalidInput never h = never h
fault_only P NotFound never h = h
fault_only P AlreadyExists never h = h
fault_only P UnexpectedEof never h = h
fault_only P Full never h = h
fault_only P Memory never h = h
fault_only P Device never h = h
fault_only P Failed never h = h

pub faults_only : (P : Type 0) (r : Result (Unit {0}) Error) → (P → ⊥) → IfErr r (IsFaultOrInvalidInputIf P) → IfErr r (IsFaultOrInvalidInputIf ⊥)
faults_only P (Ok x) never h = h
faults_only P (Err e) never h = fault_only P e never h

pub longest : (v : Version) → sector_len v ≤ 4096
longest V3 = omega arith
longest V4 = omega arith
