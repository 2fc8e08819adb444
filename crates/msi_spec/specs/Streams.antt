-- What each call on streams and signatures answers, and what it makes of a sound package.
use Rattle.std.specs.Prelude.{◌≡◌, ℕ, Bool, IsTrue, true, false, not, ◌&&◌, ◌||◌, List, [], ◌∷◌, map, filter, ◌==◌, if◌then◌else◌, Result, Ok, Err, codes, is_some, is_none, chars, encode_utf8_all}
use Rattle.std.specs.List.{list_all, list_any}
use Rattle.std.specs.Ordering.{is_lt}
use Rattle.msi_texts.specs.Results.{◌>>=◌, unless_not, or_refused}
use Rattle.msi_texts.specs.StreamName.{is_valid_name, is_marked, spelled_name}
use Rattle.msi_texts.specs.StreamName.{name_of as decoded_name}
use Rattle.cfb_tree.specs.Names.{CaseTable, name_cmp}
use Rattle.cfb_spec.specs.TreeRules.{Object, a_stream, a_storage, is_same_name}
use Rattle.cfb_spec.specs.TreeRules.{name_of as object_name}
use Rattle.msi_spec.specs.Package.{PackageContent, is_stream, at_name, stream_at, summary_name}
use Rattle.cfb_medium.specs.declared.error.Error.{Error}
use Rattle.cfb_medium.specs.declared.error.Error.TheVariants.{InvalidInput, NotFound, AlreadyExists}

-- the four special names, which stand unencoded
abbrev pub document_summary_name : List ℕ
document_summary_name = 5 ∷ codes "DocumentSummaryInformation"

-- the signature
abbrev pub signature_name : List ℕ
signature_name = 5 ∷ codes "DigitalSignature"

-- the second signature stream
abbrev pub signature_ex_name : List ℕ
signature_ex_name = 5 ∷ codes "MsiDigitalSignatureEx"

-- all four
abbrev pub special_names : List (List ℕ)
special_names = document_summary_name ∷ summary_name ∷ signature_name ∷ signature_ex_name ∷ []

-- a slash, a backslash, a colon or an exclamation mark, as a byte
abbrev pub is_separator : ℕ → Bool
is_separator b = b == 47 || b == 92 || b == 58 || b == 33

-- the characters that name a stream
abbrev pub plain_stream_name : List ℕ → List ℕ
plain_stream_name name = spelled_name false (chars name)

module _ (letters : CaseTable) where
  -- the key of one of the four
  abbrev pub is_special : List ℕ → Bool
  is_special name = list_any (is_same_name letters name) special_names

  -- a name that a stream can have
  abbrev pub may_name : List ℕ → Result (Unit {0}) Error
  may_name name = unless_not (is_valid_name false (chars name) && not (list_any is_separator name) && not (is_special (plain_stream_name name))) InvalidInput

  -- the bytes of a stream
  abbrev pub stream_read : PackageContent → List ℕ → Result (List ℕ) Error
  stream_read P name = may_name name >>= λ _. or_refused (stream_at letters P.streams (plain_stream_name name)) NotFound

  -- the objects but the one of a name
  abbrev pub without_stream : List ℕ → List Object → List Object
  without_stream name objects = filter (λ o. not (is_same_name letters name (object_name o))) objects

  -- a stream with other bytes
  abbrev pub with_bytes : List ℕ → Object → Object
  with_bytes content (a_stream name state_bits bytes) = a_stream name state_bits content
  with_bytes content (a_storage name facts inside) = a_storage name facts inside

  -- a stream keeps its stored name and its state bits; a new one goes where its key belongs
  abbrev pub stream_put : List ℕ → List ℕ → List Object → List Object
  stream_put name content [] = a_stream name 0 content ∷ []
  stream_put name content (o ∷ os) =
      if is_same_name letters name (object_name o) then with_bytes content o ∷ os
      else (if is_lt (name_cmp letters name (object_name o)) then a_stream name 0 content ∷ o ∷ os
      else o ∷ stream_put name content os)

  -- a filter takes no object of the name, nor one that is put under it
  pub record IsDropped (keep : Object → Bool) (name : List ℕ) : Type 0 where
    pub dropped : (o : Object) → is_same_name letters name (object_name o) ≡ true → keep o ≡ false
    pub new : (content : List ℕ) → keep (a_stream name 0 content) ≡ false

  -- the package with a stream of these bytes
  abbrev pub stream_written : PackageContent → List ℕ → List ℕ → Result PackageContent Error
  stream_written P name content =
      may_name name >>= λ _.
      unless_not (is_none (at_name letters P.storages (plain_stream_name name))) AlreadyExists >>= λ _.
      Ok (record P { streams = stream_put (plain_stream_name name) content P.streams })

  -- the package without a stream
  abbrev pub stream_removed : PackageContent → List ℕ → Result PackageContent Error
  stream_removed P name = stream_read P name >>= λ _. Ok (record P { streams = without_stream (plain_stream_name name) P.streams })

  -- the names of the streams that belong to no table and aren't special, in the container's order
  abbrev pub stream_names : PackageContent → List (List ℕ)
  stream_names P = map (λ o. encode_utf8_all (decoded_name (object_name o)))
      (filter (λ o. not (is_special (object_name o)) && not (is_marked (object_name o))) P.streams)

  -- there is a signature
  abbrev pub is_signed : PackageContent → Bool
  is_signed P = is_some (stream_at letters P.streams signature_name)

  -- the package without both signature streams
  abbrev pub unsigned : PackageContent → PackageContent
  unsigned P = record P { streams = without_stream signature_ex_name (without_stream signature_name P.streams) }

  -- there is such a stream; none of a name that reading refuses
  abbrev pub has_stream : PackageContent → List ℕ → Bool
  has_stream P name = is_read (stream_read P name)
    where
      is_read : Result (List ℕ) Error → Bool
      is_read (Ok bytes) = true
      is_read (Err e) = false

  -- two names of one stream: in each package both are read and removed alike, and what is written under one is read under the other
  pub record AreOneStream (one other : List ℕ) : Type 0 where
    pub read : (P : PackageContent) → stream_read P one ≡ stream_read P other
    pub removed : (P : PackageContent) → stream_removed P one ≡ stream_removed P other
    pub written : (P Q : PackageContent) (content : List ℕ) → IsTrue (list_all is_stream P.streams) → stream_written P one content ≡ Ok Q → stream_read Q other ≡ Ok content
