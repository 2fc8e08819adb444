-- Reading the pairs of a section one after the other.
use Rattle.std.proofs.Common.{◌≡◌, ℕ, suc, true, false, List, Ok, Err}
use Rattle.std.specs.Option.{is_some}
use Rattle.std.specs.Map.{lookup}
use Rattle.std.specs.BTreeMap.{insert_entry, is_at}
use Rattle.std.specs.Ordering.{nat_cmp}
use Rattle.msi_texts.specs.Reading.{number_at}
use Rattle.msi_props.specs.Props.{pairs_at}
use Rattle.cfb_medium.specs.declared.error.Error.{Error}
use Rattle.cfb_medium.specs.declared.error.Error.TheVariants.{InvalidData}

module _ (left : ℕ) (bytes : List ℕ) (pairs : List (ℕ × ℕ)) where
  pub number_refused : (e : Error) → number_at 4 bytes ≡ Err e → pairs_at (suc left) bytes pairs ≡ Err e
  number_refused e refused = rw refused

  module _ (number : ℕ) (rest : List ℕ) (read : number_at 4 bytes ≡ Ok (number, rest)) where
    pub offset_refused : (e : Error) → number_at 4 rest ≡ Err e → pairs_at (suc left) bytes pairs ≡ Err e
    offset_refused e refused = rw (read, refused)

    module _ (offset : ℕ) (behind : List ℕ) (also : number_at 4 rest ≡ Ok (offset, behind)) where
      pub repeated : is_some (lookup (is_at (nat_cmp number)) pairs) ≡ true → pairs_at (suc left) bytes pairs ≡ Err InvalidData
      repeated there = rw (read, also, there)

      pub next_pair : is_some (lookup (is_at (nat_cmp number)) pairs) ≡ false → pairs_at (suc left) bytes pairs ≡ pairs_at left behind (insert_entry nat_cmp pairs number offset)
      next_pair new = rw (read, also, new)
