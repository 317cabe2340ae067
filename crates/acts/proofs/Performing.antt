-- Acts one after the other.
use Rattle.std.proofs.Common.{◌≡◌, ℕ, ◌+◌, ◌<◌, ◌≤◌, Bool, List, length, get_or, drop, Ok, Err, Result, ap, ◌∙◌}
use Rattle.std.proofs.lemmas.List.{at_drop_more, at_drop_all}
use Rattle.rules.specs.Chip.{Chip}
use Rattle.acts.specs.declared.act.Act.{Act}
use Rattle.faults.specs.declared.fault.Cause.{Cause}
use Rattle.acts.specs.Acts.{Course, course_of, if_taken, before, through, part_of, parts_of}

-- all of them are done
pub all_done : (c : Chip) (low : Bool) (area : List ℕ) (acts : List Act) (i : ℕ) → length acts ≤ i → through c low area (parts_of (drop i acts)) ≡ record { chip = c; answer = Ok tt; area = area }
unfolding through
all_done c low area acts i h = at_drop_all (λ xs. through c low area (parts_of xs)) acts i h

-- ---- one more

followed : Result (Unit {0}) Cause → Course → Course → Course
followed answer s rest = record { chip = if_taken answer rest.chip s.chip; answer = if_taken answer rest.answer s.answer; area = if_taken answer rest.area s.area }

module _ (c : Chip) (low : Bool) (area : List ℕ) (acts : List Act) (i : ℕ) (d : Act) (h : i < length acts) where
  abbrev s : Course
  s = course_of c low area (part_of (get_or acts i d))

  abbrev rest : Course
  rest = through s.chip low s.area (parts_of (drop (i + 1) acts))

  split : through c low area (parts_of (drop i acts)) ≡ before s rest
  unfolding through
  split = at_drop_more (λ xs. through c low area (parts_of xs)) acts i d h

  pub taken_on : (u : Unit {0}) → s.answer ≡ Ok u → through c low area (parts_of (drop i acts)) ≡ rest
  unfolding followed
  taken_on u e = split ∙ ap (λ a. followed a s rest) e

  pub refused_at : (x : Cause) → s.answer ≡ Err x → through c low area (parts_of (drop i acts)) ≡ s
  unfolding followed
  refused_at x e = split ∙ ap (λ a. followed a s rest) e
