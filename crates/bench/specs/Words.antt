-- The words that a report has for what an array answered.
use Rattle.std.specs.Prelude.{ℕ, List, codes, Result, Ok, Err}
use Rattle.arrays.specs.declared.error.ArrayError.{ArrayError}
use Rattle.arrays.specs.Words.{error_word}

abbrev pub word_of : Result (Unit {0}) ArrayError → List ℕ
word_of (Ok done) = codes "done"
word_of (Err error) = error_word error
