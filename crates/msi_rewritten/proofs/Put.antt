-- What stands beside a table's stream when it is put: no name of another table, of the pool or of the summary is its own.
use Rattle.std.proofs.Common.{◌≡◌, ◌∙◌, ℕ, ◌<◌, Bool, true, false, cond, List, length, None, Some, refl, sym, ap, subst}
use Rattle.std.specs.Prelude.{◌&&◌, not, bytes_eq, chars, option_and_then, slice_get}
use Rattle.std.proofs.lemmas.Bool.{and_parts}
use Rattle.std.proofs.lemmas.Option.{get_or_from_slice_get, slice_get_within}
use Rattle.cfb_tree.specs.Names.{CaseTable}
use Rattle.cfb_tree.specs.Objects.{is_same_name}
use Rattle.cfb_tree.specs.Tree.{Tree}
use Rattle.msi_pool.specs.Pool.{Pool}
use Rattle.msi_props.specs.Props.{Props}
use Rattle.msi_tables.specs.Table.{Table}
use Rattle.msi_texts.specs.Category.{is_identifier}
use Rattle.msi_texts.specs.StreamName.{is_valid_name}
use Rattle.msi_spec.specs.Opening.{keeps_encoded_names}
use Rattle.msi_spec.specs.Package.{data_name, has_slash, object_bytes, objects, pool_name, stream_at, stream_name, summary_name, table_stream, PackageContent}
use Rattle.msi_spec.specs.Sound.{is_free_table_name}
use Rattle.msi_spec.specs.SoundParts.{HasSoundNames}
use Rattle.msi_spec.specs.Split.{HasPool, HasSummary}
use Rattle.msi_spec.proofs.SystemRows.{bytes_same}
use Rattle.msi_rewritten.specs.Rewriting.{HasPut}
use Rattle.msi_rewritten.proofs.Beside.{put_beside}
use Rattle.msi_rewritten.proofs.Names.{summary_apart, tables_apart}

pub not_true : (b : Bool) → not b ≡ true → b ≡ true → ⊥
not_true true e f = absurd (cc)
not_true false e f = absurd (cc)

pub names_differ : (one other : List ℕ) → bytes_eq one other ≡ false → one ≡ other → ⊥
names_differ one other e same = (let h : true ≡ false = sym (bytes_same one) ∙ ap (bytes_eq one) same ∙ e in cc)

-- the name is an identifier, and none of the pool's
pub free_parts : (name : List ℕ) → is_free_table_name name ≡ true → (is_identifier name ≡ true) × (not (bytes_eq name pool_name) ≡ true) × (not (bytes_eq name data_name) ≡ true)
free_parts name e =
    let a = and_parts (is_identifier name && is_valid_name true (chars name) && not (bytes_eq name pool_name)) (not (bytes_eq name data_name)) e in
    let b = and_parts (is_identifier name && is_valid_name true (chars name)) (not (bytes_eq name pool_name)) a.0 in
    let c = and_parts (is_identifier name) (is_valid_name true (chars name)) b.0 in
    (c.0, b.1, a.1)

module _ (letters : CaseTable) (P : PackageContent) (usable : keeps_encoded_names letters ≡ true) (named : HasSoundNames letters P) (k : ℕ) (t : Table) (at : slice_get P.tables k ≡ Some t) where
  pub within_it : k < length P.tables
  within_it = slice_get_within P.tables k t at

  own_free : is_free_table_name t.name ≡ true
  own_free = subst (λ (u : Table). is_free_table_name u.name ≡ true) (get_or_from_slice_get P.tables k t t at) (named.table_names k t within_it)

  pub own_identifier : is_identifier t.name ≡ true
  own_identifier = (free_parts t.name own_free).0

  module _ (old new : Tree) (bytes : List ℕ) (put : HasPut letters t.name bytes old new) where
    pub beside : (m : List ℕ) → is_same_name letters (stream_name m) (stream_name t.name) ≡ false → table_stream letters (objects new.content) m ≡ table_stream letters (objects old.content) m
    beside m differs =
        ap (λ os. table_stream letters os m) put.objects
        ∙ ap (λ o. cond (has_slash m) None (option_and_then object_bytes o)) (put_beside letters (stream_name t.name) bytes (stream_name m) differs (objects old.content))

    pub summary_beside : stream_at letters (objects new.content) summary_name ≡ stream_at letters (objects old.content) summary_name
    summary_beside =
        ap (λ os. stream_at letters os summary_name) put.objects
        ∙ ap (option_and_then object_bytes) (put_beside letters (stream_name t.name) bytes summary_name (summary_apart letters usable t.name own_identifier) (objects old.content))

    pub pool_beside : table_stream letters (objects new.content) pool_name ≡ table_stream letters (objects old.content) pool_name
    pool_beside =
        beside pool_name (tables_apart letters usable pool_name t.name refl own_identifier (λ same. not_true (bytes_eq t.name pool_name) (free_parts t.name own_free).1 (subst (λ n. bytes_eq n pool_name ≡ true) same refl)))

    pub data_beside : table_stream letters (objects new.content) data_name ≡ table_stream letters (objects old.content) data_name
    data_beside =
        beside data_name (tables_apart letters usable data_name t.name refl own_identifier (λ same. not_true (bytes_eq t.name data_name) (free_parts t.name own_free).2 (subst (λ n. bytes_eq n data_name ≡ true) same refl)))

    pub pool_after : (held : Pool) → HasPool letters old held → HasPool letters new held
    pool_after held has = record {
      pool_bytes = has.pool_bytes;
      data_bytes = has.data_bytes;
      pool_at = pool_beside ∙ has.pool_at;
      data_at = data_beside ∙ has.data_at;
      pooled = has.pooled;
    }

    pub summary_after : (summary : Props) → HasSummary letters old summary → HasSummary letters new summary
    summary_after summary has = record {
      summary_bytes = has.summary_bytes;
      summary_at = summary_beside ∙ has.summary_at;
      read = has.read;
      of_kind = has.of_kind;
    }
