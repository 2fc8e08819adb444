use Rattle.std.proofs.Common.{◌∙◌, sym, ap, map, subst, arith}
use Rattle.std.specs.Prelude.{IfSome}
use Rattle.std.specs.Rc.{rc_value}
use Rattle.msi_parts.specs.Judged.{are_free_names, heading_named, IsUsual}
use Rattle.msi_tables.specs.Held.{heading_of}
use Rattle.msi_tables.specs.Schema.{validation_name}
use Rattle.msi_parts.proofs.wellness.are_well.Goals as goal

pub returns : goal.returns
returns c = (
  λ yes. record {
    pool_whole = c.if-not-parts.false;
    summary_whole = sym c.texts_give_back.ensures ∙ c.if-not-texts_give_back.false;
    one_section = sym c.num_sections.ensures ∙ omega (arith, c.if-num_sections-ne1.false);
    free = c.are_free_empty.ensures.0 c.if-not-are_free_empty.false;
    names = ap (λ ts. are_free_names (map (λ t. heading_of (rc_value t)) ts)) (sym c.deref.ensures.value) ∙ sym c.are_free_names.ensures ∙ c.if-not-are_free_names.false;
    usual = subst (λ ts. IfSome (heading_named (map (λ t. heading_of (rc_value t)) ts) validation_name) IsUsual) c.deref-2.ensures.value (c.is_validation_usual.ensures.0 yes);
  },
  λ w. c.is_validation_usual.ensures.1 (subst (λ ts. IfSome (heading_named (map (λ t. heading_of (rc_value t)) ts) validation_name) IsUsual) (sym c.deref-2.ensures.value) w.usual),
)
