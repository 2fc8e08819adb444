use Rattle.std.proofs.Common.{[], ◌≡◌, ◌++◌, ◌∷◌, ◌∙◌, ap, arith, length, map, refl, subst, sym}
use Rattle.std.specs.Prelude.{chars, Some, None}
use Rattle.cfb_siblings.specs.Places.{path_to, LeadsTo}
use Rattle.cfb_tree.specs.EntryViews.{entry_in}
use Rattle.cfb_tree.specs.CaseTableViews.{case_table_of}
use Rattle.cfb_entries.specs.Parts.{parts_left}
use Rattle.cfb_entries.proofs.Following.{came_above, came_all, came_behind, came_dropped, came_first, came_further, name_stays, nothing_above, nothing_below, one_longer, told_behind, told_stays}
use Rattle.cfb_entries.proofs.Turning.{fewer_behind, no_turn, no_turn_later}
use Rattle.cfb_entries.proofs.kinds.id_at.Goals as goal

pub parts-init : goal.parts-init
parts-init c = (λ never. absurd (cc), λ tree h. ([], came_first c.args.path.now (parts_left c.of-parts.result) c.of-parts.ensures, refl))

pub parts-preserved-then-is_dropped : goal.parts-preserved-then-is_dropped
parts-preserved-then-is_dropped c = (
  λ no. no_turn_later c.in-Some.part.now (parts_left c.parts.parts) (parts_left c.in-Some.later) c.in-Some.ensures (c.parts.invariant.0 no),
  λ tree h.
      let (names, came, leads) = c.parts.invariant.1 tree h in (
        names,
        came_dropped c.args.path.now names (parts_left c.parts.parts) c.in-Some.part.now (parts_left c.in-Some.later) came c.in-Some.ensures (sym c.is_dropped.ensures ∙ c.if-is_dropped.true),
        leads,
      ),
)

pub returns-then-is_back : goal.returns-then-is_back
returns-then-is_back c = λ tree h.
    let (names, came, leads) = c.parts.invariant.1 tree h in
    nothing_above (case_table_of c.args.letters.now) tree c.args.path.now
    (came_above c.args.path.now names (parts_left c.parts.parts) c.in-Some.part.now (parts_left c.in-Some.later) came c.in-Some.ensures
    (sym c.is_dropped.ensures ∙ c.if-is_dropped.false) (sym c.is_back.ensures ∙ c.if-is_back.true))

pub parts-smaller-in-Some-behind : goal.parts-smaller-in-Some-behind
parts-smaller-in-Some-behind c =
    let is = told_behind parts_left c.behind_back-more.result.0 c.in-Some-behind.behind (parts_left c.in-Some.later) c.behind_back-more.ensures.behind c.in-Some-behind.is in
    let fewer = fewer_behind (parts_left c.in-Some.later) 0 (parts_left c.in-Some-behind.behind) is in
    let whole = ap (λ parts. length parts) c.in-Some.ensures in
    omega (arith, fewer, whole)

pub parts-preserved-in-Some-behind : goal.parts-preserved-in-Some-behind
parts-preserved-in-Some-behind c =
    let later = parts_left c.in-Some.later in
    let is = told_behind parts_left c.behind_back-more.result.0 c.in-Some-behind.behind later c.behind_back-more.ensures.behind c.in-Some-behind.is in (
      λ no. let never : Some (parts_left c.in-Some-behind.behind) ≡ None = sym is ∙ no_turn later 0 (c.behind_back-more.ensures.turns no) in absurd (cc),
      λ tree h.
          let (names, came, leads) = c.parts.invariant.1 tree h in (
            names,
            came_behind c.args.path.now names (parts_left c.parts.parts) c.in-Some.part.now later came c.in-Some.ensures (sym c.is_dropped.ensures ∙ c.if-is_dropped.false)
                (sym c.is_back.ensures ∙ c.if-is_back.false) (parts_left c.in-Some-behind.behind) is,
            leads,
          ),
    )

pub returns-in_default-child_of : goal.returns-in_default-child_of
returns-in_default-child_of c = λ tree h.
    let letters = case_table_of c.args.letters.now in
    let part = c.in-Some.part.now in
    let later = parts_left c.in-Some.later in
    let never = told_stays parts_left c.behind_back-more.result.0 later c.behind_back-more.ensures.behind c.in_default-behind.is in
    let (names, came, leads) = c.parts.invariant.1 tree h in
    let (more, named) = name_stays c.args.path.now names (parts_left c.parts.parts) part later came c.in-Some.ensures (sym c.is_dropped.ensures ∙ c.if-is_dropped.false)
    (sym c.is_back.ensures ∙ c.if-is_back.false) never in
    nothing_below letters tree c.args.path.now (path_to (map chars names) (chars part)) (map chars more) named (c.in_default-child_of.ensures tree h (map chars names) leads)

pub parts-preserved : goal.parts-preserved
parts-preserved c =
    let part = c.in-Some.part.now in
    let later = parts_left c.in-Some.later in
    let never = told_stays parts_left c.behind_back-more.result.0 later c.behind_back-more.ensures.behind c.in_default-behind.is in (
      c.behind_back-more.ensures.turns,
      λ tree h.
          let (names, came, leads) = c.parts.invariant.1 tree h in (
            names ++ part ∷ [],
            came_further c.args.path.now names (parts_left c.parts.parts) part later came c.in-Some.ensures (sym c.is_dropped.ensures ∙ c.if-is_dropped.false)
                (sym c.is_back.ensures ∙ c.if-is_back.false) never,
            subst (λ path. LeadsTo (case_table_of c.args.letters.now) (map entry_in c.args.entries.now) 0 path c.in-Some-child_of.child) (one_longer names part)
                (c.in-Some-child_of.ensures tree h (map chars names) leads),
          ),
    )

pub returns : goal.returns
returns c = λ tree h.
    let (names, came, leads) = c.parts.invariant.1 tree h in
    (map chars names, came_all c.args.path.now names (parts_left c.parts.parts) came c.in_default.ensures, leads)
