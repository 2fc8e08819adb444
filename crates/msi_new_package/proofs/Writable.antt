-- Pool and summary of a new package can be written.
use Rattle.std.proofs.Common.{◌≡◌, ◌<◌, Bool, true, List, [], ◌∷◌, length, ap, refl, subst, sym, arith, lit<}
use Rattle.std.specs.Prelude.{◌&&◌, nat_lt}
use Rattle.std.specs.List.{list_all}
use Rattle.std.specs.Str.{chars, is_utf8}
use Rattle.std.specs.Str.Lossy.{utf8_valid_len}
use lib.Utf8.{encode}
use Rattle.std.proofs.lemmas.Bool.{and_parts}
use Rattle.std.proofs.lemmas.Bool.Decides.{nat_tests}
use Rattle.msi_spec.specs.Calls.{bare_package, title_of, IsNew, Rows3}
use Rattle.msi_spec.specs.Package.{PackageContent}
use Rattle.msi_spec.specs.declared.kind.PackageType.{PackageType}
use Rattle.msi_spec.specs.declared.kind.PackageType.TheVariants.{Installer, Patch, Transform}
use Rattle.msi_pool.specs.Pool.{PoolEntry, Pool}
use Rattle.msi_pool.specs.PoolKept.{AreKept, IsKeptPlace, IsWritable}
use Rattle.msi_props.specs.Kept.{SetIsWritable}
use Rattle.msi_props.specs.Props.{is_in_size}
use Rattle.msi_texts.specs.Page.{encoded, fits}
use Rattle.msi_texts.specs.declared.codepage.CodePage.TheVariants as page
use Rattle.msi_new_package.specs.New.{PartsComeBack}
use Rattle.msi_new_package.proofs.Made.{made, made_is}

-- ---- the pool

-- its text fits the page, its length and its count fit their fields, and it is in use
abbrev is_kept : PoolEntry → Bool
is_kept p = is_utf8 p.text && (fits page.Utf8 p.text && (nat_lt p.count 65536 && (nat_lt (length (encoded page.Utf8 p.text)) 4294967296 && nat_lt 0 p.count)))

kept : (p : PoolEntry) → is_kept p ≡ true → IsKeptPlace page.Utf8 p
kept p h =
    let a = and_parts (is_utf8 p.text) (fits page.Utf8 p.text && (nat_lt p.count 65536 && (nat_lt (length (encoded page.Utf8 p.text)) 4294967296 && nat_lt 0 p.count))) h in
    let b = and_parts (fits page.Utf8 p.text) (nat_lt p.count 65536 && (nat_lt (length (encoded page.Utf8 p.text)) 4294967296 && nat_lt 0 p.count)) a.1 in
    let c = and_parts (nat_lt p.count 65536) (nat_lt (length (encoded page.Utf8 p.text)) 4294967296 && nat_lt 0 p.count) b.1 in
    let d = and_parts (nat_lt (length (encoded page.Utf8 p.text)) 4294967296) (nat_lt 0 p.count) c.1 in
    let few : p.count < 65536 = grind (arith, nat_tests, c.0) in
    let short : length (encoded page.Utf8 p.text) < 4294967296 = grind (arith, nat_tests, d.0) in
    let some : 0 < p.count = grind (arith, nat_tests, d.1) in
    record {
      utf8 = a.0;
      fit = b.0;
      count = few;
      size = short;
      free = λ none. absurd (omega (arith, none, some));
    }

all_kept : (ps : List PoolEntry) → list_all is_kept ps ≡ true → AreKept page.Utf8 ps
all_kept [] h = tt
all_kept (p ∷ ps) h = (let both = and_parts (is_kept p) (list_all is_kept ps) h in (kept p both.0, all_kept ps both.1))

are_kept : list_all is_kept made.1.places ≡ true
unfolding is_utf8 utf8_valid_len chars encode
are_kept = refl

made_writable : IsWritable made.1
made_writable = (all_kept made.1.places are_kept, lit< tt)

-- ---- the summary

in_size : (kind : PackageType) → is_in_size (bare_package kind).summary ≡ true
unfolding is_utf8 utf8_valid_len chars encode
in_size Installer = refl
in_size Patch = refl
in_size Transform = refl

is_text : (kind : PackageType) → is_utf8 (title_of kind) ≡ true
unfolding is_utf8 utf8_valid_len chars encode
is_text Installer = refl
is_text Patch = refl
is_text Transform = refl

summary_writable : (kind : PackageType) → SetIsWritable (bare_package kind).summary
summary_writable kind = record {
  size = in_size kind;
  version = lit< tt;
  class = refl;
  format = refl;
  rising = ((lit< tt, tt), (tt, tt));
  numbers = (lit< tt, (lit< tt, tt));
  values = (record { sfits = lit< tt }, ((is_text kind, refl), tt));
  page = refl;
}

-- ---- together

pub new_back : (kind : PackageType) (P : PackageContent) → IsNew kind P → PartsComeBack P
new_back kind P new = subst PartsComeBack (sym new.2.6) (record {
  pool = subst IsWritable pool_is made_writable;
  summary = summary_writable kind;
  one_section = refl;
  format = refl;
})
  where
    pool_is : made.1 ≡ new.0.1
    pool_is = ap (λ (x : Rows3 × Pool). x.1) (made_is kind new.0 new.1)
