-- The texts of the rows of three tables, counted one table after the other.
use Rattle.std.proofs.Common.{◌≡◌, Bool, true, List, [], ◌∷◌, refl, sym, subst, Result, Ok, Err, Some, None, Option}
use Rattle.std.specs.Prelude.{IfErr, option_map}
use Rattle.std.specs.List.{list_all}
use Rattle.cfb_medium.specs.declared.error.Error.{Error}
use Rattle.cfb_medium.specs.declared.error.Error.TheVariants.{InvalidInput}
use Rattle.msi_changes.specs.Changes.{counted, in_turn, row_counted, rows_counted}
use Rattle.msi_changes.specs.Laws.{KeepsPlaces}
use Rattle.msi_changes.proofs.Shapes.{kept_then}
use Rattle.msi_columns.specs.Column.{are_valid, Column}
use Rattle.msi_spec.specs.Calls.{Rows3}
use Rattle.msi_pool.specs.Pool.{place, used, Pool}
use Rattle.msi_pool.specs.declared.stringref.ValueRef.{ValueRef}
use Rattle.msi_pool.specs.declared.stringref.ValueRef.TheVariants as cell
use Rattle.msi_rewritten.proofs.Inserted.{of_ok}
use Rattle.msi_tables.specs.Rows.{AreRowsWritable, Row}
use Rattle.msi_texts.specs.Results.{◌>>=◌, or_refused}
use Rattle.msi_values.specs.Datum.{binary, null, number, text, Datum}
use Rattle.msi_table_edits.specs.Testing.{three_counted}
use Rattle.msi_table_edits.proofs.Accepted.{same_ok, then_ok}
use Rattle.msi_table_edits.proofs.Shaped.{rows_fit}

-- ---- a refusal is that of a full pool

abbrev Full : Error → Type 0
Full e = e ≡ InvalidInput

then_full : {A B : Type 0} (r : Result A Error) (f : A → Result B Error) → IfErr r Full → ((x : A) → IfErr (f x) Full) → IfErr (r >>= f) Full
then_full (Ok x) f own rest = rest x
then_full (Err e) f own rest = own

turns_full : {S X Y : Type 0} (f : S → X → Result (Y × S) Error) → ((s : S) (x : X) → IfErr (f s x) Full) → (s : S) (xs : List X) → IfErr (in_turn f s xs) Full
turns_full f each s [] = tt
turns_full f each s (x ∷ xs) = then_full (f s x) (λ y. in_turn f y.1 xs >>= λ ys. Ok (y.0 ∷ ys.0, ys.1)) (each s x) (λ y. then_full (in_turn f y.1 xs) (λ ys. Ok (y.0 ∷ ys.0, ys.1)) (turns_full f each y.1 xs) (λ ys. tt))

counted_full : (pool : Pool) (d : Datum) → IfErr (counted pool d) Full
counted_full pool null = tt
counted_full pool (number z) = tt
counted_full pool (text t) = by (option_map (λ n. (cell.Str n, used pool t)) (place pool t))
  where
    by : (o : Option (ValueRef × Pool)) → IfErr (or_refused o InvalidInput) Full
    by None = refl
    by (Some x) = tt
counted_full pool binary = tt

rows_full : (pool : Pool) (rows : List (List Datum)) → IfErr (rows_counted pool rows) Full
rows_full pool rows = turns_full row_counted (λ p ds. turns_full counted counted_full p ds) pool rows

module _ (p : Pool) (cs ts vs : List (List Datum)) where
  abbrev All : Type 0
  All = Result (Rows3 × Pool) Error

  pub three_full : (e : Error) → three_counted p cs ts vs ≡ Err e → e ≡ InvalidInput
  three_full e is = subst (λ (r : All). IfErr r Full) is
      (then_full (rows_counted p cs) _ (rows_full p cs) (λ c. then_full (rows_counted c.1 ts) _ (rows_full c.1 ts) (λ t. then_full (rows_counted t.1 vs) _ (rows_full t.1 vs) (λ v. tt))))

  -- ---- the three, one after the other

  pub record AreThree (x : Rows3 × Pool) : Type 0 where
    pub c : List Row × Pool
    pub t : List Row × Pool
    pub v : List Row × Pool
    pub c_is : rows_counted p cs ≡ Ok c
    pub t_is : rows_counted c.1 ts ≡ Ok t
    pub v_is : rows_counted t.1 vs ≡ Ok v
    pub is : ((c.0, t.0, v.0), v.1) ≡ x

  pub are_three : (x : Rows3 × Pool) → three_counted p cs ts vs ≡ Ok x → AreThree x
  are_three x e =
      let c = then_ok (rows_counted p cs) (λ c. rows_counted c.1 ts >>= λ t. rows_counted t.1 vs >>= λ v. Ok ((c.0, t.0, v.0), v.1)) x e in
      let t = then_ok (rows_counted c.0.1 ts) (λ t. rows_counted t.1 vs >>= λ v. Ok ((c.0.0, t.0, v.0), v.1)) x c.2 in
      let v = then_ok (rows_counted t.0.1 vs) (λ v. Ok ((c.0.0, t.0.0, v.0), v.1)) x t.2 in
      let made : Rows3 × Pool = ((c.0.0, t.0.0, v.0.0), v.0.1) in
      record { c = c.0; t = t.0; v = v.0; c_is = c.1; t_is = t.1; v_is = v.1; is = sym {b = made} (same_ok made x v.2) }

  -- ---- they can be written

  module _ (hc ht hv : List Column) (c_fits : list_all (are_valid hc) cs ≡ true) (t_fits : list_all (are_valid ht) ts ≡ true) (v_fits : list_all (are_valid hv) vs ≡ true) where
    pub record CanWriteThree (x : Rows3 × Pool) : Type 0 where
      pub c : AreRowsWritable p.long hc x.0.0
      pub t : AreRowsWritable p.long ht x.0.1
      pub v : AreRowsWritable p.long hv x.0.2

    pub can_write_three : (x : Rows3 × Pool) → three_counted p cs ts vs ≡ Ok x → CanWriteThree x
    can_write_three x e =
        let d = are_three x e in
        let c : AreRowsWritable p.long hc d.c.0 × KeepsPlaces p d.c.1 = of_ok (rows_counted p cs) (λ r. AreRowsWritable p.long hc r.0 × KeepsPlaces p r.1) d.c d.c_is (rows_fit hc p cs c_fits) in
        let t : AreRowsWritable d.c.1.long ht d.t.0 × KeepsPlaces d.c.1 d.t.1 = of_ok (rows_counted d.c.1 ts) (λ r. AreRowsWritable d.c.1.long ht r.0 × KeepsPlaces d.c.1 r.1) d.t d.t_is (rows_fit ht d.c.1 ts t_fits) in
        let v : AreRowsWritable d.t.1.long hv d.v.0 × KeepsPlaces d.t.1 d.v.1 = of_ok (rows_counted d.t.1 vs) (λ r. AreRowsWritable d.t.1.long hv r.0 × KeepsPlaces d.t.1 r.1) d.v d.v_is (rows_fit hv d.t.1 vs v_fits) in
        let both = kept_then p d.c.1 d.t.1 c.1 t.1 in
        subst CanWriteThree d.is (record {
          c = c.0;
          t = subst (λ (long : Bool). AreRowsWritable long ht d.t.0) c.1.long t.0;
          v = subst (λ (long : Bool). AreRowsWritable long hv d.v.0) both.long v.0;
        })
