-- The words for why a call was not carried out.
use Rattle.std.specs.Prelude.{ℕ, List, codes}
use Rattle.arrays.specs.declared.error.ArrayError.{ArrayError}
use Rattle.arrays.specs.declared.error.ArrayError.TheVariants.{Worn, Absent}

abbrev pub error_word : ArrayError → List ℕ
error_word Worn = codes "worn"
error_word Absent = codes "absent"
