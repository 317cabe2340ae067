use Rattle.std.proofs.Common.{◌≡◌, ℕ, ◌+◌, ◌*◌, ◌/◌, ◌<◌, List, ◌++◌, length, get_or, take, drop, set, refl, zero-add, le_refl, arith}
use Rattle.std.proofs.lemmas.List.Edits.{paste_more}
use Rattle.std.proofs.lemmas.List.{drop_all, append-nil, length-take-le}
use Rattle.tape.specs.Hex.{hex_value, bytes_in}
use Rattle.tape.proofs.Decoding.{length-bytes_in, byte_in}
use Rattle.tape.proofs.hex.decode_first.Goals as goal

-- One more byte of xs in front of what is left of ys.
one_more : (xs ys : List ℕ) (i : ℕ) → i < length xs → i < length ys → set (take i xs ++ drop i ys) i (get_or xs i 0) ≡ take (i + 1) xs ++ drop (i + 1) ys
one_more xs ys i h k =
    let z : 0 + i < length ys = omega arith in
    simp zero-add at (paste_more ys 0 xs i 0 z h)

stored : (ds ys bytes : List ℕ) (i byte : ℕ) → i < length ds / 2 → i < length ys → bytes ≡ take i (bytes_in ds) ++ drop i ys → byte ≡ 16 * hex_value (get_or ds (2 * i) 0) + hex_value (get_or ds (2 * i + 1) 0) → set bytes i byte ≡ take (i + 1) (bytes_in ds) ++ drop (i + 1) ys
stored ds ys bytes i byte h k e p =
    let long = length-bytes_in ds in
    rw (e, p, ← byte_in ds i h) (one_more (bytes_in ds) ys i (omega arith) k)

finished : (xs ys items : List ℕ) (i : ℕ) → items ≡ take i xs ++ drop i ys → i ≡ length ys → items ≡ take (length ys) xs
finished xs ys items i e p = rw (e, p, drop_all (length ys) ys (le_refl _)) (append-nil _)

pub loop-i-preserved : goal.loop-i-preserved
loop-i-preserved c =
    let long = length-take-le c.args.count c.args.bytes.now (omega arith) in
    stored _ _ _ _ _ (omega arith) (omega arith) c.loop-i.invariant c.byte_of.ensures

pub returns : goal.returns
returns c =
    let room : List ℕ = take c.args.count c.args.bytes.now in
    let long = length-take-le c.args.count c.args.bytes.now (omega arith) in
    let whole = finished (bytes_in c.args.digits.now) room c.loop-i.byte-items c.loop-i.i c.loop-i.invariant (omega arith) in
    rw (whole, long) refl
