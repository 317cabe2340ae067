use Rattle.std.proofs.Common.{length, map, rules}
use Rattle.std.proofs.lemmas.List.{at_drop_more, at_drop_all, take_more_set, append_assoc, append-nil, take_all}
use Rattle.play.specs.Played.{chip_after_calls, answers_to, area_after_calls}
use Rattle.play.proofs.play.log_calls.Goals as goal

pub loop-i-preserved : goal.loop-i-preserved
loop-i-preserved g c =
    let chip = g.C.StoreCard.chip c.loop-i.card in
    let n = length c.loop-i.area in (
      search (rules, at_drop_more (chip_after_calls chip n)),
      search (rules, at_drop_more (λ calls. map g.E.Entry.kept (answers_to chip n calls)), take_more_set, append_assoc),
      search (rules, at_drop_more (λ calls. area_after_calls chip n calls c.loop-i.area)),
    )

pub returns : goal.returns
returns g c =
    let chip = g.C.StoreCard.chip c.loop-i.card in
    let n = length c.loop-i.area in
    record {
      chip = search (rules, at_drop_all (chip_after_calls chip n));
      log = search (rules, at_drop_all (λ calls. map g.E.Entry.kept (answers_to chip n calls)), append-nil, take_all);
      area = search (rules, at_drop_all (λ calls. area_after_calls chip n calls c.loop-i.area));
    }
