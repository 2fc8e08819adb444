use Rattle.std.proofs.Common.{◌≡◌, inl, inr, ap, refl, rules, sym, subst, ◌∙◌, ⊎_elim}
use Rattle.std.specs.Prelude.{slice_get, Err, Some}
use Rattle.cfb_directory.specs.Views.{entries_held}
use Rattle.cfb_mini.specs.Views.{directory_of}
use Rattle.cfb_stream_reads.specs.Streams.{sectors_in, IsOfLevel, StreamLiesIn}
use Rattle.cfb_tree.specs.Directory.{Entry}
use Rattle.cfb_tree.specs.EntryViews.{entry_in}
use Rattle.cfb_tree.proofs.OneContent.{Some_same}
use Rattle.cfb.specs.Views.{file_case_table, links_held, mini_of}
use Rattle.cfb.proofs.HeldLinks.{held_found}
use Rattle.cfb.proofs.StreamsFound.{none_ahead}
use Rattle.cfb.proofs.Wants.{entry_cause}
use Rattle.cfb.proofs.Written.{open_found, size_meant, want_so}
use Rattle.cfb.proofs.compound_file.CompoundFile.find_written.Goals as goal

pub returns-in-Err-find_sectors-clause-refused_only_if : goal.returns-in-Err-find_sectors-clause-refused_only_if
returns-in-Err-find_sectors-clause-refused_only_if g c = λ tree m.
    let it = c.args.self.now in
    let id = c.in-Ok-find_stream.id in
    let f = c.in-Ok-find_stream.ensures.found tree m.live in
    let e = entry_in c.dir_entry-entry.result.now in
    let found : slice_get (entries_held (directory_of (mini_of it))) id ≡ Some e = ap (λ d. slice_get (entries_held d) id) (sym c.directory.ensures) ∙ c.dir_entry-entry.ensures in
    inl (want_so it f.names tree id f.content m f.at e found c.in-Err-find_sectors.error (λ wrong. c.in-Err-find_sectors.ensures.none (ap Err wrong)) c.in-Err-find_sectors.ensures.errors)

pub returns-clause-found : goal.returns-clause-found
returns-clause-found g c = λ tree m.
    let it = c.args.self.now in
    let id = c.in-Ok-find_stream.id in
    let f = c.in-Ok-find_stream.ensures.found tree m.live in
    let e = entry_in c.dir_entry-entry.result.now in
    let found : slice_get (entries_held (directory_of (mini_of it))) id ≡ Some e = ap (λ d. slice_get (entries_held d) id) (sym c.directory.ensures) ∙ c.dir_entry-entry.ensures in
    let links = c.in-Ok-find_sectors.links in
    let lies = c.in-Ok-find_sectors.ensures.sectors in
    let level = c.in-Ok-find_sectors.ensures.level in
    record {
      names = f.names;
      at_path = f.at_path;
      content = f.content;
      answer = open_found (file_case_table it) tree f.names f.at.name f.at.bits f.content f.at.at_path;
      written = record {
        sound = m.sound;
        at = f.at;
        links = λ other there.
            let same : e ≡ other = Some_same (sym found ∙ there) in
            subst (λ (x : Entry). StreamLiesIn (mini_of it) x.start x.size (sectors_in links) × IsOfLevel (mini_of it) x.size links) same (lies, level);
        held = λ other is. sym (Some_same is);
        ahead = none_ahead c.clear-2.new.self f.content c.clear-2.ensures.none;
      };
      owners = f.owners;
      len_is = size_meant it f.names tree id f.content m f.at e found links lies level;
    }

pub returns-clause-only_reads : goal.returns-clause-only_reads
returns-clause-only_reads g c =
    let it = c.args.self.now in
    let id = c.in-Ok-find_stream.id in
    let e = entry_in c.dir_entry-entry.result.now in
    let found : slice_get (entries_held (directory_of (mini_of it))) id ≡ Some e = ap (λ d. slice_get (entries_held d) id) (sym c.directory.ensures) ∙ c.dir_entry-entry.ensures in
    let links = c.in-Ok-find_sectors.links in
    let told = c.in-Ok-find_sectors.ensures in
    record {
      mini = search rules;
      letters = refl;
      validation = refl;
      sound = refl;
      most = search rules;
      held = λ _. held_found (mini_of it) id links
          (λ other there.
          let same : e ≡ other = Some_same (sym found ∙ there) in
          subst (λ (x : Entry). StreamLiesIn (mini_of it) x.start x.size (sectors_in links) × IsOfLevel (mini_of it) x.size links) same (told.sectors, told.level));
    }

pub returns-then-holds-clause-found : goal.returns-then-holds-clause-found
returns-then-holds-clause-found g c = λ tree m.
    let it = c.args.self.now in
    let id = c.in-Ok-find_stream.id in
    let f = c.in-Ok-find_stream.ensures.found tree m.live in
    let e = entry_in c.dir_entry-entry.result.now in
    let found : slice_get (entries_held (directory_of (mini_of it))) id ≡ Some e = ap (λ d. slice_get (entries_held d) id) (sym c.directory.ensures) ∙ c.dir_entry-entry.ensures in
    let links = c.holds.ensures.links c.if-holds.true m.held in
    let lies = links e found in
    record {
      names = f.names;
      at_path = f.at_path;
      content = f.content;
      answer = open_found (file_case_table it) tree f.names f.at.name f.at.bits f.content f.at.at_path;
      written = record {
        sound = m.sound;
        at = f.at;
        links = links;
        held = c.holds.ensures.one c.if-holds.true;
        ahead = none_ahead c.clear.new.self f.content c.clear.ensures.none;
      };
      owners = f.owners;
      len_is = size_meant it f.names tree id f.content m f.at e found (links_held it) lies.0 lies.1;
    }

pub returns-in-Err-find_stream-clause-refused_only_if : goal.returns-in-Err-find_stream-clause-refused_only_if
returns-in-Err-find_stream-clause-refused_only_if g c = λ tree m. ⊎_elim (λ memory. inl (inl memory)) (λ rule. inr rule) (c.in-Err-find_stream.ensures.refused_only_if tree m.live)

pub returns-in-Err-find_stream-clause-errors : goal.returns-in-Err-find_stream-clause-errors
returns-in-Err-find_stream-clause-errors g c = entry_cause c.args.self.now c.in-Err-find_stream.error c.in-Err-find_stream.ensures.errors
