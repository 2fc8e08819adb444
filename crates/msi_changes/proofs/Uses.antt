-- Uses of texts in a pool, as the queries count them.
use Rattle.std.proofs.Common.{◌≡◌, Bool, true, false, refl, Option, Some, None, Ok, Err, ◌==◌, not, ℕ, rules, option_map, if◌then◌else◌}
use Rattle.cfb_medium.specs.declared.error.Error.TheVariants.{InvalidData, InvalidInput}
use Rattle.msi_values.specs.Datum.{Datum, null, number, text, binary}
use Rattle.msi_texts.specs.Results.{or_refused}
use Rattle.msi_pool.specs.Pool.{Pool, place, pool_entry_at, used, with_refcount_down}
use Rattle.msi_pool.specs.PoolState.{PoolState}
use Rattle.msi_pool.specs.Refs.{cell_of, with_value, is_counted, without_value}
use Rattle.msi_pool.specs.declared.stringref.ValueRef.{ValueRef}
use Rattle.msi_pool.specs.declared.stringref.ValueRef.TheVariants as cell
use Rattle.msi_changes.specs.Changes.{counted, taken_back}

pub counted_so : (P : PoolState) (d : Datum) (v : ValueRef) → cell_of P.pool d ≡ Some v → counted P.pool d ≡ Ok (v, (with_value P d).pool)
counted_so P null v e = cc
counted_so P (number z) v e = cc
counted_so P (text t) v e = at_text (place P.pool t) e
  where
    at_text : (o : Option ℕ) → option_map cell.Str o ≡ Some v → or_refused {A = ValueRef × Pool} (option_map (λ n. (cell.Str n, used P.pool t)) o) InvalidInput ≡ Ok (v, used P.pool t)
    at_text (Some n) e = cc
    at_text None e = cc
counted_so P binary v e = cc

pub full_so : (P : PoolState) (d : Datum) → cell_of P.pool d ≡ None → counted P.pool d ≡ Err InvalidInput
full_so P null e = search rules
full_so P (number z) e = search rules
full_so P (text t) e = at_text (place P.pool t) e
  where
    at_text : (o : Option ℕ) → option_map cell.Str o ≡ None → or_refused {A = ValueRef × Pool} (option_map (λ n. (cell.Str n, used P.pool t)) o) InvalidInput ≡ Err InvalidInput
    at_text None e = refl
    at_text (Some n) e = search rules
full_so P binary e = search rules

pub marked : (P : PoolState) (d : Datum) → (with_value P d).modified ≡ false → with_value P d ≡ P
marked P null e = refl
marked P (number z) e = refl
marked P (text t) e = search rules
marked P binary e = refl

pub taken_so : (P : PoolState) (v : ValueRef) → is_counted P.pool v ≡ true → taken_back P.pool v ≡ Ok (without_value P v).pool
taken_so P (cell.Str n) e = known ((pool_entry_at P.pool.places n).count == 0) e
  where
    known : (b : Bool) → not b ≡ true → (if b then Err InvalidData else Ok (record P.pool { places = with_refcount_down n P.pool.places })) ≡ Ok (without_value P (cell.Str n)).pool
    known false e = refl
    known true e = cc
taken_so P cell.Null e = refl
taken_so P (cell.Int z) e = refl
taken_so P cell.Binary e = refl

pub unused_so : (P : PoolState) (v : ValueRef) → is_counted P.pool v ≡ false → taken_back P.pool v ≡ Err InvalidData
unused_so P (cell.Str n) e = known ((pool_entry_at P.pool.places n).count == 0) e
  where
    known : (b : Bool) → not b ≡ false → (if b then Err InvalidData else Ok (record P.pool { places = with_refcount_down n P.pool.places })) ≡ Err InvalidData
    known true e = refl
    known false e = cc
unused_so P cell.Null e = search rules
unused_so P (cell.Int z) e = search rules
unused_so P cell.Binary e = search rules

pub taken_marked : (P : PoolState) (v : ValueRef) → (without_value P v).modified ≡ false → without_value P v ≡ P
taken_marked P (cell.Str n) e = search rules
taken_marked P cell.Null e = refl
taken_marked P (cell.Int z) e = refl
taken_marked P cell.Binary e = refl
