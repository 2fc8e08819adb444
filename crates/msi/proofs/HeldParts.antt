-- A package is held where its file has the streams of its pool and of its summary.
use Rattle.std.proofs.Common.{◌≡◌, ◌∙◌, ap, map, sym, true, Ok}
use Rattle.cfb.proofs.LiveMeaning.{holds_meant}
use Rattle.cfb.specs.Views.{file_case_table}
use Rattle.cfb_medium.specs.declared.medium.ReadMedium.{Ghosts}
use Rattle.msi_spec.proofs.SoundAnyway.{sound_anyway}
use Rattle.msi_spec.specs.Opening.{keeps_encoded_names}
use Rattle.msi_spec.specs.Package.{PackageContent}
use Rattle.msi_parts.specs.Parts.{heading}
use Rattle.msi_pool.proofs.PoolRoundTrip.{written_pool_is_read}
use Rattle.msi_pool.specs.Pool.{data_stream, pool_stream}
use Rattle.msi_props.proofs.Comeback.{written_set_is_read}
use Rattle.msi_props.specs.Props.{props_bytes}
use Rattle.msi_streams.specs.Parts.{HasParts, bytes_of_parts}
use Rattle.msi.proofs.SavedSound.{packs_sound}
use Rattle.msi.specs.Opened.{PackageHasContent, file_in, kind_in, pool_in, summary_in, tables_in}
use Rattle.msi.specs.declared.package.Package.{Package}

module _ {F : Type 0} {g : Ghosts F} (it : Package F g) (P : PackageContent) (kind : kind_in it ≡ P.kind) (summary : (summary_in it).props ≡ P.summary) (pool : (pool_in it).pool ≡ P.pool)
    (tables : tables_in it ≡ map (heading (pool_in it).pool.long) P.tables) (usable : keeps_encoded_names (file_case_table (file_in it)) ≡ true)
    (parts : HasParts (file_case_table (file_in it)) P (bytes_of_parts P.pool P.summary) (file_in it)) where
  pub held_parts : PackageHasContent it P
  held_parts = record {
    tree = parts.after;
    file = holds_meant (file_in it) parts.after parts.means;
    usable = usable;
    stores = parts.stores.stores;
    memory = record { kind = kind; summary = summary; pool = pool; tables = tables };
    pool = λ unmodified writable. record {
      pool_bytes = pool_stream P.pool;
      data_bytes = data_stream P.pool;
      pool_at = parts.pool_at;
      data_at = parts.data_at;
      pooled = written_pool_is_read P.pool writable;
    };
    summary = λ written fit. record {
      summary_bytes = props_bytes P.summary;
      summary_at = parts.summary_at;
      read = written_set_is_read P.summary fit.writable ∙ ap (λ n. Ok (record P.summary { sections = n })) (sym parts.stores.named.one_section);
      of_kind = fit.format;
    };
    three = record {
      summary = props_bytes P.summary;
      summary_at = parts.summary_at;
      pool = pool_stream P.pool;
      pool_at = parts.pool_at;
      pool_data = data_stream P.pool;
      data_at = parts.data_at;
    };
    sound = λ yes. (parts.means, parts.stores);
    back = λ yes unmodified written writable fit.
        let both = packs_sound (file_case_table (file_in it)) parts.after P parts.stores (record { pool = writable; summary = fit }) parts.summary_at parts.pool_at parts.data_at in
        (sound_anyway (file_case_table (file_in it)) parts.after P both.packs both.sound).gives_back;
  }
