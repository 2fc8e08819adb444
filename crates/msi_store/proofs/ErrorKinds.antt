-- Which errors the parts of a package have, over any medium.
use Rattle.std.proofs.Common.{◌≡◌, ◌⊎◌, inl, inr, subst, sym}
use Rattle.std.specs.Prelude.{Err, IfErr, Ok, Result}
use Rattle.cfb.proofs.Wants.{want_is}
use Rattle.cfb.specs.Putting.{IsOpenStreamError}
use Rattle.cfb.specs.Streams.{IsFileMemoryOrFailed}
use Rattle.cfb.specs.declared.compound_file.CompoundFile.{CompoundFile}
use Rattle.cfb_medium.specs.Calls.{IsFaultOrInvalidInputIf}
use Rattle.cfb_medium.specs.declared.error.Error.{Error}
use Rattle.cfb_medium.specs.declared.error.Error.TheVariants.{InvalidData, Memory}
use Rattle.cfb_medium.specs.declared.medium.ReadMedium.{Ghosts}
use Rattle.msi_store.proofs.Refusals.{IsOfBytes, Refuses}
use Rattle.msi_stored.specs.Reading.{IsOpeningError}
use Rattle.msi_texts.specs.Results.{ReturnsOrOutOfMemory}

pub memory_kind : (e : Error) → e ≡ Memory → IsOpeningError e
memory_kind e is = inl (subst (IsFaultOrInvalidInputIf ⊥) (sym is) tt)

pub read_kind : (e : Error) → IsFaultOrInvalidInputIf ⊥ e ⊎ (e ≡ InvalidData) → IsOpeningError e
read_kind e (inl fault) = inl fault
read_kind e (inr is) = inr (inl is)

of_bytes : (e : Error) → IsOfBytes e → IsOpeningError e
of_bytes e (inl is) = inr (inl is)
of_bytes e (inr is) = inr (inr (inr (inr is)))

pub err_kind : {X Y : Type 0} (r : Result X Error) (d : Result Y Error) → Refuses d → IfErr r (λ e. (e ≡ Memory) ⊎ (d ≡ Err e)) → IfErr r IsOpeningError
err_kind (Ok x) d refuses told = tt
err_kind (Err e) d refuses (inl memory) = memory_kind e memory
err_kind (Err e) d refuses (inr is) = of_bytes e (subst Refuses is refuses)

pub answer_kind : {X Y : Type 0} (see : X → Y) (r : Result X Error) (d : Result Y Error) → Refuses d → ReturnsOrOutOfMemory see r d → IfErr r IsOpeningError
answer_kind see (Ok x) d refuses told = tt
answer_kind {X} see (Err e) d refuses told = err_kind {X = X} (Err e) d refuses told

pub same_kind : {X : Type 0} (r d : Result X Error) → Refuses d → r ≡ d → IfErr r IsOpeningError
same_kind (Ok x) d refuses is = tt
same_kind (Err e) d refuses is = of_bytes e (subst Refuses (sym is) refuses)

pub schema_kind : {X : Type 0} (P : Type 0) (r : Result X Error) → IfErr r (λ e. (e ≡ Memory) ⊎ ((e ≡ InvalidData) × P)) → IfErr r IsOpeningError
schema_kind P (Ok x) err = tt
schema_kind P (Err e) (inl memory) = memory_kind e memory
schema_kind P (Err e) (inr both) = inr (inl both.0)

pub root_kind : {F : Type 0} {g : Ghosts F} (it : CompoundFile F g) (e : Error) → IsFileMemoryOrFailed it e ⊎ IsOpenStreamError e → IsOpeningError e
root_kind it e (inl want) = inl (want_is it e want)
root_kind it e (inr (inl is)) = inr (inl is)
root_kind it e (inr (inr (inl is))) = inr (inr (inl is))
root_kind it e (inr (inr (inr is))) = inr (inr (inr (inl is)))
