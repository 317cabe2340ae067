use Rattle.std.proofs.Common.{◌≡◌, ◌++◌, length, map, take, drop}
use Rattle.play.specs.Played.{chip_after_calls, answers_to, area_after_calls}
use Rattle.play.proofs.play.log_calls.Given as goal

-- what is left of the calls leads to where all of them lead, fills what is left of the log, and leaves the area as all of them do
abbrev pub invariant-loop-i : goal.invariant-loop-i
invariant-loop-i g l =
    let chip = g.C.StoreCard.chip in
    (chip_after_calls (chip l.card) (length l.area) (drop l.i l.calls) ≡ chip_after_calls (chip l.initial.card) (length l.initial.area) l.calls)
    × (take l.i l.log ++ map g.E.Entry.kept (answers_to (chip l.card) (length l.area) (drop l.i l.calls))
    ≡ map g.E.Entry.kept (answers_to (chip l.initial.card) (length l.initial.area) l.calls))
    × (area_after_calls (chip l.card) (length l.area) (drop l.i l.calls) l.area ≡ area_after_calls (chip l.initial.card) (length l.initial.area) l.calls l.initial.area)
