use Rattle.std.proofs.Common.{rules, ◌≡◌, ◌≤◌, ◌<◌, ◌+◌, ◌^◌, ◌&&◌, ℕ, true, false, [], ◌∷◌, List, length, drop, is_some, nat_lt, refl, sym, subst, ap, ◌∙◌, arith}
use Rattle.std.proofs.lemmas.List.{drop_all}
use Rattle.staged.specs.Held.{listed}
use Rattle.staged.specs.Log.{runs_of, run_count}
use Rattle.staged.specs.Pages.{HoldsPage, page_at}
use Rattle.staged.specs.declared.pages.Page.{Page}
use Rattle.staged.proofs.Homed.{held_at}
use Rattle.staged.proofs.Mapped.{rises_listed, page_here, at_end}
use Rattle.staged.proofs.Numbered.{page}
use Rattle.staged.proofs.RunsWritten.{next_run, count_most}
use Rattle.staged.proofs.runs.count_runs.Goals as goal

abbrev none : Page
none = page 0 []

pub goes_on-requires : goal.goes_on-requires
goes_on-requires c =
    let entries = c.args.pages.now.entries.entries in
    let k = c.loop-number.invariant.0 in
    let here = page_here entries k (page c.in-Some.number.now c.in-Some._bytes.now.value) none (c.in-Some.number.now, c.in-Some._bytes.now) c.next.new.self (c.loop-number.invariant.1 ∙ c.in-Some.ensures.steps) refl in
    let held = held_at (listed c.args.pages.now) k none (rises_listed entries c.args.pages.now.ordered) here.0 in
    c.requires.small c.in-Some.number.now (subst (λ (p : Page). HoldsPage (listed c.args.pages.now) p.number) (sym here.1) held)

pub loop-number-preserved-then-not-goes_on : goal.loop-number-preserved-then-not-goes_on
loop-number-preserved-then-not-goes_on c =
    let entries = c.args.pages.now.entries.entries in
    let pages = listed c.args.pages.now in
    let k = c.loop-number.invariant.0 in
    let inv = c.loop-number.invariant.2 in
    let here = page_here entries k (page c.in-Some.number.now c.in-Some._bytes.now.value) none (c.in-Some.number.now, c.in-Some._bytes.now) c.next.new.self (c.loop-number.invariant.1 ∙ c.in-Some.ensures.steps) refl in
    let goes : (is_some (page_at pages (c.in-Some.number.now + 1)) && nat_lt (c.loop-number.count + 1) 4294967295) ≡ false = sym c.goes_on.ensures ∙ c.if-not-goes_on.true in
    let step = next_run pages k c.loop-number.count c.in-Some.number.now here.0 (ap (λ (p : Page). p.number) here.1) false goes in
    let total : c.loop-number.runs + runs_of pages c.loop-number.count (drop k pages) ≡ run_count pages = inv.counted in (
      k + 1,
      here.2,
      record {
        within = let e = here.0 in omega arith;
        small = let e = inv.small in omega arith;
        most = omega arith;
        counted = omega (arith, step, total);
      },
    )

pub loop-number-preserved : goal.loop-number-preserved
loop-number-preserved c =
    let entries = c.args.pages.now.entries.entries in
    let pages = listed c.args.pages.now in
    let k = c.loop-number.invariant.0 in
    let inv = c.loop-number.invariant.2 in
    let here = page_here entries k (page c.in-Some.number.now c.in-Some._bytes.now.value) none (c.in-Some.number.now, c.in-Some._bytes.now) c.next.new.self (c.loop-number.invariant.1 ∙ c.in-Some.ensures.steps) refl in
    let goes : (is_some (page_at pages (c.in-Some.number.now + 1)) && nat_lt (c.loop-number.count + 1) 4294967295) ≡ true = sym c.goes_on.ensures ∙ c.if-not-goes_on.false in
    let step = next_run pages k c.loop-number.count c.in-Some.number.now here.0 (ap (λ (p : Page). p.number) here.1) true goes in (
      k + 1,
      here.2,
      record {
        within = let e = here.0 in omega arith;
        small = let e = inv.small in omega arith;
        most = count_most (is_some (page_at pages (c.in-Some.number.now + 1))) (c.loop-number.count + 1) goes;
        counted = ap (λ (n : ℕ). c.loop-number.runs + n) (sym step) ∙ inv.counted;
      },
    )

pub returns : goal.returns
returns c =
    let entries = c.args.pages.now.entries.entries in
    let pages = listed c.args.pages.now in
    let k = c.loop-number.invariant.0 in
    let inv = c.loop-number.invariant.2 in
    let all : k ≡ length pages = at_end entries k (c.loop-number.invariant.1 ∙ c.in-None.ensures.steps.0) inv.within in
    let left : runs_of pages c.loop-number.count (drop k pages) ≡ 0 = ap (λ (ps : List Page). runs_of pages c.loop-number.count ps) (drop_all k pages (omega arith)) in
    let total : c.loop-number.runs + runs_of pages c.loop-number.count (drop k pages) ≡ run_count pages = inv.counted in
    record { value = omega arith }
