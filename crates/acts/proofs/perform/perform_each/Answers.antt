use Rattle.std.proofs.Common.{◌≡◌, ◌+◌, [], drop, Err, sym, ap, ◌∙◌}
use Rattle.std.proofs.lemmas.Result.{err_from_is_err_and}
use Rattle.rules.specs.Chip.{Chip}
use Rattle.acts.specs.declared.act.Act.{Act}
use Rattle.acts.specs.declared.act.Act.TheVariants.{Send}
use Rattle.acts.specs.Acts.{Course, through, parts_of}
use Rattle.acts.proofs.Performing.{all_done, taken_on, refused_at}
use Rattle.acts.proofs.perform.perform_each.Goals as goal

-- what an act past the end would be
none : Act
none = Send (record { ref_ptr = (0, 0); now = [] })

pub returns-in_err-perform : goal.returns-in_err-perform
unfolding none
returns-in_err-perform g c =
    let here : Chip = g.C.StoreCard.chip c.loop-act.card in
    let p = err_from_is_err_and c.from_residual.result c.from_residual.ensures.1 in
    let err : c.perform.result ≡ c.from_residual.result = c.in_err-perform.was ∙ sym (p.1 ∙ ap (λ x. Err x) p.2) in
    let e = sym c.loop-act.invariant ∙ refused_at here c.args.low c.loop-act.area c.args.acts.now c.loop-act.act-index none c.loop-act-test.true c.in_err-perform.field-0.0 (sym c.perform.ensures.answer ∙ c.in_err-perform.was) in
    record {
      chip = c.perform.ensures.chip ∙ sym (ap (λ (s : Course). s.chip) e);
      answer = sym err ∙ (c.perform.ensures.answer ∙ sym (ap (λ (s : Course). s.answer) e));
      area = c.perform.ensures.area ∙ sym (ap (λ (s : Course). s.area) e);
    }

pub loop-act-preserved : goal.loop-act-preserved
unfolding none
loop-act-preserved g c =
    let here : Chip = g.C.StoreCard.chip c.loop-act.card in
    let on = taken_on here c.args.low c.loop-act.area c.args.acts.now c.loop-act.act-index none c.loop-act-test.true c.in_ok-perform.field-0 (sym c.perform.ensures.answer ∙ c.in_ok-perform.was) in
    (λ k. through (c.perform.ensures.chip k) c.args.low (c.perform.ensures.area k) (parts_of (drop (c.loop-act.act-index + 1) c.args.acts.now))) ∙ (sym on ∙ c.loop-act.invariant)

pub returns : goal.returns
returns g c =
    let e = sym c.loop-act.invariant ∙ all_done (g.C.StoreCard.chip c.loop-act.card) c.args.low c.loop-act.area c.args.acts.now c.loop-act.act-index c.loop-act-test.false in
    record { chip = sym (ap (λ (s : Course). s.chip) e); answer = sym (ap (λ (s : Course). s.answer) e); area = sym (ap (λ (s : Course). s.area) e) }
