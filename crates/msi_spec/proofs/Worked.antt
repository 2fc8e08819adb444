-- Worked packages, computed from the definitions.
use Rattle.std.proofs.Common.{◌≡◌, ℕ, true, false, List, [], ◌∷◌, ◌++◌, refl, length, map, take, drop}
use Rattle.std.specs.Prelude.{Option, Some, None, Result, Ok, Err, codes, encode_utf8_all}
use Rattle.std.specs.Str.{chars}
use Rattle.std.proofs.Math.Utf8.{encode}
use Rattle.msi_values.specs.Datum.{text}
use Rattle.msi_pool.specs.Pool.{Pool, pool_stream, data_stream}
use Rattle.msi_columns.specs.Column.{Column, plain, as_key}
use Rattle.msi_tables.specs.Schema.{columns_rows, validation_row, validation_columns, validation_name, schema_of}
use Rattle.msi_columns.specs.declared.column.ColumnType.TheVariants as kind
use Rattle.cfb_tree.specs.Names.{CaseTable, ascii_letters, letter, name_key}
use Rattle.cfb_spec.specs.TreeRules.{a_stream}
use Rattle.msi_spec.specs.Package.{PackageContent}
use Rattle.msi_spec.specs.Calls.{bare_package, created, dropped, described, may_update, Rows3, new_table}
use Rattle.msi_spec.specs.Streams.{stream_put, stream_names, has_stream, stream_read, stream_written, signature_name, is_signed, unsigned, plain_stream_name}
use Rattle.msi_spec.specs.declared.kind.PackageType.TheVariants.{Installer}
use Rattle.cfb_medium.specs.declared.error.Error.{Error}
use Rattle.cfb_medium.specs.declared.error.Error.TheVariants.{InvalidInput, NotFound, AlreadyExists}

abbrev bare : PackageContent
bare = bare_package Installer

abbrev pool_in : Result (Rows3 × Pool) Error → Pool
pool_in (Ok x) = x.1
pool_in (Err e) = bare.pool

abbrev refusal_in : {A : Type 0} → Result A Error → Option Error
refusal_in (Ok x) = None
refusal_in (Err e) = Some e

-- what a new package's pool holds: the rows of its one table are counted
abbrev new_pool : Pool
new_pool = pool_in (described bare validation_name validation_columns)

new_places : length new_pool.places ≡ 17
new_places = refl

new_pool_length : length (pool_stream new_pool) ≡ 72
new_pool_length = refl

new_pool_begins : take 12 (pool_stream new_pool) ≡ 0xE9 ∷ 0xFD ∷ 0 ∷ 0 ∷ 0x0B ∷ 0 ∷ 0x15 ∷ 0 ∷ 5 ∷ 0 ∷ 2 ∷ 0 ∷ []
new_pool_begins = refl

new_data_length : length (data_stream new_pool) ≡ 356
new_data_length = refl

-- _Validation describes itself
described_by_itself : schema_of (columns_rows validation_name 1 validation_columns) (map (validation_row validation_name) validation_columns) validation_name ≡ Some validation_columns
described_by_itself = refl

-- and with a table T of one column Id beside it
abbrev id_column : Column
id_column = as_key (plain (codes "Id") kind.Int16)

second_table : map (λ p. p.count) (drop 17 ((pool_in (described (record bare { pool = new_pool }) (codes "T") (id_column ∷ []))).places)) ≡ 3 ∷ 2 ∷ []
second_table = refl

-- refusals of a new table, in their order
abbrev refused : List ℕ → List Column → Option Error
refused name columns = refusal_in (created true bare name columns)

no_key : refused (codes "T") (plain (codes "Id") kind.Int16 ∷ []) ≡ Some InvalidInput
unfolding chars encode
no_key = refl

there_already : refused (codes "_Tables") (id_column ∷ []) ≡ Some AlreadyExists
unfolding chars encode
there_already = refl

too_long : refused (codes "T") (as_key (plain (codes "Id") (kind.Str 300)) ∷ []) ≡ Some InvalidInput
unfolding chars encode
too_long = refl

parted_choice : refused (codes "T") (id_column ∷ record (plain (codes "Kind") (kind.Str 8)) { choices = codes "a;b" ∷ [] } ∷ []) ≡ Some InvalidInput
unfolding chars encode
parted_choice = refl

binary_key : refused (codes "T") (as_key (plain (codes "Id") kind.Binary) ∷ []) ≡ Some InvalidInput
unfolding chars encode
binary_key = refl

pool_taken : refused (codes "_StringData") (id_column ∷ []) ≡ Some InvalidInput
unfolding chars encode
pool_taken = refl

storage_there : refusal_in (created false bare (codes "T") (id_column ∷ [])) ≡ Some AlreadyExists
unfolding chars encode
storage_there = refl

accepted : refused (codes "T") (id_column ∷ []) ≡ None
unfolding chars encode
accepted = refl

-- without _Validation a good table isn't found, and a bad one is told first
abbrev without_validation : PackageContent
without_validation = record bare { tables = new_table (codes "_Columns") [] ∷ new_table (codes "_Tables") [] ∷ [] }

no_validation : refusal_in (created true without_validation (codes "T") (id_column ∷ [])) ≡ Some NotFound
unfolding chars encode
no_validation = refl

bad_name_first : refusal_in (created true without_validation (codes "1T") (id_column ∷ [])) ≡ Some InvalidInput
unfolding chars encode
bad_name_first = refl

system_kept : refusal_in (dropped bare validation_name) ≡ Some InvalidInput
unfolding chars encode
system_kept = refl

not_there : refusal_in (dropped bare (codes "T")) ≡ Some NotFound
unfolding chars encode
not_there = refl

-- streams, where each character counts for itself
abbrev itself : CaseTable
itself = []

-- the shorter name comes first, though its first character is greater
shorter_first : stream_put itself (plain_stream_name (codes "A")) (1 ∷ []) (a_stream (plain_stream_name (codes "Foo")) 0 [] ∷ [])
    ≡ a_stream (0x480A ∷ []) 0 (1 ∷ []) ∷ a_stream (0x448F ∷ 0x4832 ∷ []) 0 [] ∷ []
unfolding chars encode letter name_key
shorter_first = refl

abbrev with_streams : PackageContent
with_streams = record bare { streams = a_stream (0x44CA ∷ 0x47B3 ∷ 0x46E8 ∷ 0x4828 ∷ []) 7 (1 ∷ 2 ∷ []) ∷ a_stream signature_name 0 [] ∷ [] }

listed : stream_names itself with_streams ≡ codes "App.exe" ∷ []
unfolding chars encode letter name_key
listed = refl

read : stream_read itself with_streams (codes "App.exe") ≡ Ok (1 ∷ 2 ∷ [])
unfolding chars encode letter name_key
read = refl

there : has_stream itself with_streams (codes "App.exe") ≡ true
unfolding chars encode letter name_key
there = refl

separator_refused : stream_read itself with_streams (codes "a/b") ≡ Err InvalidInput
unfolding chars encode letter name_key
separator_refused = refl

missing : stream_read itself with_streams (codes "Foo") ≡ Err NotFound
unfolding chars encode letter name_key
missing = refl

state_bits_kept : stream_written itself with_streams (codes "App.exe") [] ≡ Ok (record with_streams { streams = a_stream (0x44CA ∷ 0x47B3 ∷ 0x46E8 ∷ 0x4828 ∷ []) 7 [] ∷ a_stream signature_name 0 [] ∷ [] })
unfolding chars encode letter name_key
state_bits_kept = refl

signed : is_signed itself with_streams ≡ true
unfolding chars encode letter name_key
signed = refl

signature_gone : is_signed itself (unsigned itself with_streams) ≡ false
unfolding chars encode letter name_key
signature_gone = refl

-- a character that stands for two letters names their stream
one_stream_of_two : plain_stream_name (encode_utf8_all (0x4164 ∷ [])) ≡ plain_stream_name (codes "ab")
unfolding chars encode
one_stream_of_two = refl

-- under the ASCII table two names that differ in case only are two names all the same, since their characters are joined
letters_apart : stream_names ascii_letters (record bare { streams = stream_put ascii_letters (plain_stream_name (codes "foo")) (2 ∷ []) (stream_put ascii_letters (plain_stream_name (codes "Foo")) (1 ∷ []) []) })
    ≡ codes "Foo" ∷ codes "foo" ∷ []
unfolding chars encode letter name_key
letters_apart = refl

-- a description may be set, and another column that has its name may not
description_set : may_update validation_name validation_columns ((codes "Description", text (codes "size in bytes")) ∷ []) ≡ true
description_set = refl

abbrev renamed_columns : List Column
renamed_columns = take 5 validation_columns ++ plain (codes "Description") (kind.Str 255) ∷ drop 6 validation_columns

key_table_not_set : may_update validation_name renamed_columns ((codes "Description", text (codes "Other")) ∷ []) ≡ false
key_table_not_set = refl
