-- Why bytes aren't read as a pool or a summary: never by a fault of the medium.
use Rattle.std.proofs.Common.{◌≡◌, ◌⊎◌, ℕ, zero, suc, Bool, true, false, List, [], ◌∷◌, length, refl, inl, inr, Some, None}
use Rattle.std.specs.Prelude.{◌==◌, ◌&&◌, Err, IfErr, Ok, Option, Result, bytes_eq, drop, find, if◌then◌else◌, nat_lt, option_map, take}
use Rattle.cfb_medium.specs.declared.error.Error.{Error}
use Rattle.cfb_medium.specs.declared.error.Error.TheVariants.{InvalidData, UnexpectedEof}
use Rattle.msi_spec.specs.Opening.{kind_of, summary_read}
use Rattle.msi_spec.specs.Package.{class_of}
use Rattle.msi_spec.specs.declared.kind.PackageType.TheVariants.{Installer, Patch, Transform}
use Rattle.msi_pool.specs.PoolReading.{Begun, Heads, begun, head_at, heads_at, length_at, page_number, places_at, pool_of, texts_at}
use Rattle.msi_props.specs.Props.{head_at as set_head_at, page_at, page_in, page_told, pairs_at, properties_at, property_at, property_of, props_read, section_at, stored_props, system_of, text_at}
use Rattle.msi_summary.specs.Summary.{summary_format}
use Rattle.msi_texts.specs.Page.{page_id}
use Rattle.msi_texts.specs.Reading.{bytes_at, number_at}
use Rattle.msi_texts.specs.Results.{◌>>=◌, or_refused, unless_not}

-- the bytes say something else, or too little
abbrev pub IsOfBytes : Error → Type 0
IsOfBytes e = (e ≡ InvalidData) ⊎ (e ≡ UnexpectedEof)

abbrev pub Refuses : {A : Type 0} → Result A Error → Type 0
Refuses r = IfErr r IsOfBytes

-- ---- steps

pub then_refuses : {A B : Type 0} (r : Result A Error) (f : A → Result B Error) → Refuses r → ((x : A) → Refuses (f x)) → Refuses (r >>= f)
then_refuses (Ok x) f h k = k x
then_refuses (Err e) f h k = h

if_refuses : {A : Type 0} (b : Bool) (r s : Result A Error) → Refuses r → Refuses s → Refuses (if b then r else s)
if_refuses true r s h k = h
if_refuses false r s h k = k

pub unless_refuses : (b : Bool) → Refuses (unless_not b InvalidData)
unless_refuses true = tt
unless_refuses false = inl refl

or_refuses : {A : Type 0} (o : Option A) → Refuses (or_refused o InvalidData)
or_refuses None = inl refl
or_refuses (Some x) = tt

bytes_refuse : (n : ℕ) (bytes : List ℕ) → Refuses (bytes_at n bytes)
bytes_refuse n bytes = by (nat_lt (length bytes) n)
  where
    by : (b : Bool) → Refuses {A = List ℕ × List ℕ} (if b then Err UnexpectedEof else Ok (take n bytes, drop n bytes))
    by true = inr refl
    by false = tt

pub number_refuses : (n : ℕ) (bytes : List ℕ) → Refuses (number_at n bytes)
number_refuses n bytes = then_refuses (bytes_at n bytes) _ (bytes_refuse n bytes) (λ b. tt)

-- ---- the pool

length_refuses : (len count : ℕ) (bytes : List ℕ) → Refuses (length_at len count bytes)
length_refuses len count bytes = if_refuses (len == 0 && nat_lt 0 count) (number_at 4 bytes) (Ok (len, bytes)) (number_refuses 4 bytes) tt

head_refuses : (bytes : List ℕ) → Refuses (head_at bytes)
head_refuses bytes =
    then_refuses (number_at 2 bytes) _ (number_refuses 2 bytes) (λ len.
    then_refuses (number_at 2 len.1) _ (number_refuses 2 len.1) (λ count.
    then_refuses (length_at len.0 count.0 count.1) _ (length_refuses len.0 count.0 count.1) (λ own. tt)))

pub heads_refuse : (most : ℕ) (bytes : List ℕ) → Refuses (heads_at most bytes)
heads_refuse zero bytes = tt
heads_refuse (suc most) bytes =
    if_refuses (nat_lt (length bytes) 2) (Ok []) (head_at bytes >>= λ head. heads_at most head.1 >>= λ heads. Ok (head.0 ∷ heads)) tt
    (then_refuses (head_at bytes) _ (head_refuses bytes) (λ head. then_refuses (heads_at most head.1) _ (heads_refuse most head.1) (λ heads. tt)))

pub begun_refuses : (bytes : List ℕ) → Refuses (begun bytes)
begun_refuses bytes =
    then_refuses (number_at 4 bytes) _ (number_refuses 4 bytes) (λ id.
    then_refuses (or_refused (page_id (page_number id.0)) InvalidData) _ (or_refuses (page_id (page_number id.0))) (λ page.
    then_refuses (heads_at (length id.1) id.1) _ (heads_refuse (length id.1) id.1) (λ heads.
    then_refuses (unless_not (nat_lt (length heads) 4294967296) InvalidData) _ (unless_refuses (nat_lt (length heads) 4294967296)) (λ u. tt))))

pub texts_refuse : (heads : Heads) (bytes : List ℕ) → Refuses (texts_at heads bytes)
texts_refuse [] bytes = tt
texts_refuse (h ∷ hs) bytes = then_refuses (bytes_at h.0 bytes) _ (bytes_refuse h.0 bytes) (λ b. then_refuses (texts_at hs b.1) _ (texts_refuse hs b.1) (λ stored. tt))

pub pool_refuses : (b : Begun) (bytes : List ℕ) → Refuses (pool_of b bytes)
pool_refuses b bytes = then_refuses (places_at b.page b.heads bytes) _ (then_refuses (texts_at b.heads bytes) _ (texts_refuse b.heads bytes) (λ stored. tt)) (λ places. tt)

-- ---- the summary

text_refuses : (bytes : List ℕ) → Refuses (text_at bytes)
text_refuses bytes =
    then_refuses (number_at 4 bytes) _ (number_refuses 4 bytes) (λ len.
    then_refuses (bytes_at _ len.1) _ (bytes_refuse _ len.1) (λ chars.
    then_refuses (number_at 1 chars.1) _ (number_refuses 1 chars.1) (λ last.
    then_refuses (unless_not (last.0 == 0) InvalidData) _ (unless_refuses (last.0 == 0)) (λ u. tt))))

property_of_refuses : (kind : ℕ) (bytes : List ℕ) → Refuses (property_of kind bytes)
property_of_refuses kind bytes =
    if_refuses (kind == 0) _ _ tt (if_refuses (kind == 1) _ _ tt (if_refuses (kind == 2) _ _ (then_refuses (number_at 2 bytes) _ (number_refuses 2 bytes) (λ x. tt))
    (if_refuses (kind == 3) _ _ (then_refuses (number_at 4 bytes) _ (number_refuses 4 bytes) (λ x. tt)) (if_refuses (kind == 16) _ _ (then_refuses (number_at 1 bytes) _ (number_refuses 1 bytes) (λ x. tt))
    (if_refuses (kind == 30) _ _ (text_refuses bytes) (if_refuses (kind == 64) _ _ (then_refuses (number_at 8 bytes) _ (number_refuses 8 bytes) (λ x. tt)) (inl refl)))))))

property_refuses : (bytes : List ℕ) → Refuses (property_at bytes)
property_refuses bytes = then_refuses (number_at 4 bytes) _ (number_refuses 4 bytes) (λ kind. property_of_refuses kind.0 kind.1)

pairs_refuse : (n : ℕ) (bytes : List ℕ) (pairs : List (ℕ × ℕ)) → Refuses (pairs_at n bytes pairs)
pairs_refuse zero bytes pairs = tt
pairs_refuse (suc n) bytes pairs =
    then_refuses (number_at 4 bytes) _ (number_refuses 4 bytes) (λ name.
    then_refuses (number_at 4 name.1) _ (number_refuses 4 name.1) (λ offset.
    then_refuses (unless_not _ InvalidData) _ (unless_refuses _) (λ u. pairs_refuse n offset.1 _)))

page_refuses : (section : List ℕ) (o : Option ℕ) → Refuses (page_told section o)
page_refuses section None = tt
page_refuses section (Some offset) = then_refuses (property_at (drop offset section)) _ (property_refuses (drop offset section)) (λ v. or_refuses (page_in v))

properties_refuse : (version : ℕ) (section : List ℕ) (pairs : List (ℕ × ℕ)) → Refuses (properties_at version section pairs)
properties_refuse version section [] = tt
properties_refuse version section (q ∷ qs) =
    then_refuses (property_at (drop q.1 section)) _ (property_refuses (drop q.1 section)) (λ v.
    then_refuses (unless_not _ InvalidData) _ (unless_refuses _) (λ u.
    then_refuses (properties_at version section qs) _ (properties_refuse version section qs) (λ vs. tt)))

system_refuses : (n : ℕ) → Refuses (system_of n)
system_refuses n = if_refuses (n == 0) _ _ tt (if_refuses (n == 1) _ _ tt (if_refuses (n == 2) _ _ tt (inl refl)))

set_head_refuses : (bytes : List ℕ) → Refuses (set_head_at bytes)
set_head_refuses bytes =
    then_refuses (number_at 2 bytes) _ (number_refuses 2 bytes) (λ mark.
    then_refuses (unless_not _ InvalidData) _ (unless_refuses _) (λ u.
    then_refuses (number_at 2 mark.1) _ (number_refuses 2 mark.1) (λ version.
    then_refuses (unless_not _ InvalidData) _ (unless_refuses _) (λ u.
    then_refuses (number_at 2 version.1) _ (number_refuses 2 version.1) (λ system_version.
    then_refuses (number_at 2 system_version.1) _ (number_refuses 2 system_version.1) (λ number.
    then_refuses (system_of number.0) _ (system_refuses number.0) (λ system.
    then_refuses (bytes_at 16 number.1) _ (bytes_refuse 16 number.1) (λ class.
    then_refuses (number_at 4 class.1) _ (number_refuses 4 class.1) (λ sections.
    then_refuses (unless_not _ InvalidData) _ (unless_refuses _) (λ u.
    then_refuses (bytes_at 16 sections.1) _ (bytes_refuse 16 sections.1) (λ format.
    then_refuses (number_at 4 format.1) _ (number_refuses 4 format.1) (λ offset. tt))))))))))))

section_refuses : (section : List ℕ) → Refuses (section_at section)
section_refuses section =
    then_refuses (number_at 4 section) _ (number_refuses 4 section) (λ size.
    then_refuses (number_at 4 size.1) _ (number_refuses 4 size.1) (λ count. pairs_refuse count.0 count.1 []))

pub stored_refuses : (bytes : List ℕ) → Refuses (stored_props bytes)
stored_refuses bytes =
    then_refuses (set_head_at bytes) _ (set_head_refuses bytes) (λ head.
    then_refuses (section_at (drop head.offset bytes)) _ (section_refuses (drop head.offset bytes)) (λ pairs.
    then_refuses (page_at (drop head.offset bytes) pairs) _ (page_refuses (drop head.offset bytes) (option_map (λ p. p.1) (find (λ p. p.0 == 1) pairs))) (λ page.
    then_refuses (properties_at head.version (drop head.offset bytes) pairs) _ (properties_refuse head.version (drop head.offset bytes) pairs) (λ values. tt))))

pub summary_refuses : (bytes : List ℕ) → Refuses (summary_read bytes)
summary_refuses bytes =
    then_refuses (props_read bytes) _ (then_refuses (stored_props bytes) _ (stored_refuses bytes) (λ s. tt)) (λ s.
    then_refuses (unless_not (bytes_eq s.format summary_format) InvalidData) (λ u. Ok s) (unless_refuses (bytes_eq s.format summary_format)) (λ u. tt))

-- ---- the kind

pub kind_refuses : (clsid : List ℕ) → Refuses (kind_of clsid)
kind_refuses clsid =
    if_refuses (bytes_eq clsid (class_of Installer)) _ _ tt (if_refuses (bytes_eq clsid (class_of Patch)) _ _ tt (if_refuses (bytes_eq clsid (class_of Transform)) _ _ tt (inl refl)))
