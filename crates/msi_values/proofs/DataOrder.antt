-- Values are equal by their order where they are one, and orders that say so.
use Rattle.std.proofs.Common.{◌≡◌, refl, ap, sym, ◌∙◌}
use Rattle.std.specs.declared.cmp.Ordering.TheVariants.{Less, Equal, Greater}
use Rattle.std.specs.declared.cmp.Ordering.{Ordering}
use Rattle.std.specs.Prelude.{◌==◌, true}
use Rattle.std.specs.Ordering.{is_eq, ordering_index, ordering_reverse}
use Rattle.std.proofs.lemmas.Map.Lookups.{exact_bytes, exact_signed}
use Rattle.std.proofs.lemmas.Cmp.{nat_list_cmp_total, int_cmp_total, tied_itself}
use Rattle.msi_values.specs.Datum.{Datum, null, number, text, binary, datum_cmp}

pub compared_equal : (a b : Datum) → datum_cmp a b ≡ Equal → a ≡ b
compared_equal null null h = refl
compared_equal null (number y) h = cc
compared_equal null (text t) h = cc
compared_equal null binary h = cc
compared_equal (number x) null h = cc
compared_equal (number x) (number y) h = ap number (exact_signed x y h)
compared_equal (number x) (text t) h = cc
compared_equal (number x) binary h = cc
compared_equal (text s) null h = cc
compared_equal (text s) (number y) h = cc
compared_equal (text s) (text t) h = ap text (exact_bytes s t h)
compared_equal (text s) binary h = cc
compared_equal binary null h = cc
compared_equal binary (number y) h = cc
compared_equal binary (text t) h = cc
compared_equal binary binary h = refl

pub compares_equal_itself : (a : Datum) → datum_cmp a a ≡ Equal
compares_equal_itself null = refl
compares_equal_itself (number x) = tied_itself int_cmp_total x
compares_equal_itself (text s) = tied_itself nat_list_cmp_total s
compares_equal_itself binary = refl

pub compares_equal : (a b : Datum) → a ≡ b → datum_cmp a b ≡ Equal
compares_equal a b e = ap (datum_cmp a) (sym e) ∙ compares_equal_itself a

-- what comparing an answer with Equal tells
pub tested_equal : (o : Ordering) → (ordering_index o == 1) ≡ true → o ≡ Equal
tested_equal Less h = cc
tested_equal Equal h = refl
tested_equal Greater h = cc

pub tests_equal : (o : Ordering) → o ≡ Equal → (ordering_index o == 1) ≡ true
tests_equal o e = ap (λ o. ordering_index o == 1) e

pub turned_equal : (o : Ordering) → is_eq (ordering_reverse o) ≡ is_eq o
turned_equal Less = refl
turned_equal Equal = refl
turned_equal Greater = refl

pub is_equal : (o : Ordering) → is_eq o ≡ true → o ≡ Equal
is_equal Less h = absurd (cc h)
is_equal Equal h = refl
is_equal Greater h = absurd (cc h)
