-- What the calls find in the bytes of an array of n blocks of p pages.
use Rattle.std.proofs.Common.{◌≡◌, ℕ, ◌+◌, ◌-◌, ◌<◌, ◌≤◌, Bool, true, false, cond, ◌&&◌, eqb, ltb, List, length, refl, sym, ap, subst, ◌∙◌, arith}
use Rattle.arrays.specs.declared.memory.Memory.{Memory}
use Rattle.arrays.specs.declared.dump.Dump.{Dump}
use Rattle.arrays.specs.Kinds.{in_memory, in_dump}
use Rattle.std.proofs.lemmas.Bool.{cond-true, cond-false, and_parts, and_from, eqb-true, ltb-true, lt-ltb, le-ltb}
use Rattle.arrays.specs.Store.{Store, Shape, nothing, lifeless, present}
use Rattle.arrays.specs.Layout.{part, number, at_page, at_life, fits, page_in, life_in, laid, memory_store, dump_store}
use Rattle.arrays.proofs.Places.{Fit, fit, page_ends}

-- N and P of a store that is empty unless something fits
pub blocks_if : (t : Bool) (s : Store) → cond t s.blocks 0 ≡ (cond t s nothing).blocks
blocks_if true s = refl
blocks_if false s = refl

pub pages_if : (t : Bool) (s : Store) → cond t s.pages 0 ≡ (cond t s nothing).pages
pages_if true s = refl
pages_if false s = refl

-- without lives it is empty as well, or has none
lifeless_if : (t : Bool) (s : Store) → cond t (lifeless s) nothing ≡ lifeless (cond t s nothing)
lifeless_if true s = refl
lifeless_if false s = refl

no_life_if : (t : Bool) (s : Store) (b : ℕ) → (s.blocks ≤ b → s.life b ≡ 0) → (cond t s nothing).blocks ≤ b → (cond t s nothing).life b ≡ 0
no_life_if true s b h l = h l
no_life_if false s b h l = refl

-- it has a block only where all fits
fits_if : (t : Bool) (s : Store) (b : ℕ) → b < (cond t s nothing).blocks → t ≡ true
fits_if true s b h = refl
fits_if false s b h = absurd (omega arith)

module _ (n p : ℕ) (xs : List ℕ) where
  abbrev pub whole : (ℕ → ℕ) → Store
  whole life = record { blocks = n; pages = p; page = page_in n p xs; life = life }

  -- block b exists: all fits, and the store is the one that the bytes hold
  pub record Block (s : Store) (life : ℕ → ℕ) (b : ℕ) : Type 0 where
    pub fitting : fits n p (length xs) ≡ true
    pub sized : Fit n p (length xs)
    pub inside : b < n
    pub is : s ≡ whole life

  block_of : (life : ℕ → ℕ) (b : ℕ) → b < (laid n p xs life).blocks → Block (laid n p xs life) life b
  block_of life b h =
      let t = fits_if (fits n p (length xs)) (whole life) b h in
      let e = cond-true (fits n p (length xs)) (whole life) nothing t in
      record { fitting = t; sized = fit n p (length xs) t; inside = (rw e at h); is = e }

  -- page q of block b exists, and the size is a page's: where it lies
  pub record Page (s : Store) (life : ℕ → ℕ) (b q size : ℕ) : Type 0 where
    pub on : Block s life b
    pub within : q < p
    pub long : size ≡ 2112
    pub ends : at_page n p b q + 2112 ≤ length xs
    pub holds : s.page b q ≡ part 2112 (at_page n p b q) xs

  page_of : (s : Store) (life : ℕ → ℕ) → ((b : ℕ) → b < s.blocks → Block s life b)
      → (b q size : ℕ) → present s b q size ≡ true → Page s life b q size
  page_of s life known b q size e =
      let t = and_parts (ltb b s.blocks && ltb q s.pages) (eqb size 2112) e in
      let u = and_parts (ltb b s.blocks) (ltb q s.pages) t.0 in
      let on = known b (ltb-true b s.blocks u.0) in
      let q_in : q < p = (rw on.is at (ltb-true q s.pages u.1)) in
      record {
        on = on;
        within = q_in;
        long = eqb-true size 2112 t.1;
        ends = page_ends n p b q (length xs) on.inside q_in on.sized.long;
        holds = ap (λ (v : Store). v.page b q) on.is
            ∙ cond-true (ltb b n && ltb q p) _ _ (and_from _ _ (lt-ltb b n on.inside) (lt-ltb q p q_in));
      }

-- the same of a memory array and of a dump array
module _ (m : Memory) where
  abbrev pub BlockM : ℕ → Type 0
  BlockM = Block m.layout.blocks m.layout.pages m.bytes.now (in_memory m) (life_in m.layout.blocks m.bytes.now)

  pub memory_block : (b : ℕ) → b < (in_memory m).blocks → BlockM b
  unfolding memory_store
  memory_block = block_of m.layout.blocks m.layout.pages m.bytes.now (life_in m.layout.blocks m.bytes.now)

  pub memory_page : (b q size : ℕ) → present (in_memory m) b q size ≡ true
      → Page m.layout.blocks m.layout.pages m.bytes.now (in_memory m) (life_in m.layout.blocks m.bytes.now) b q size
  memory_page = page_of m.layout.blocks m.layout.pages m.bytes.now (in_memory m) (life_in m.layout.blocks m.bytes.now) memory_block

  -- the place of a life, and the life that the bytes hold there
  pub life_sized : (b : ℕ) → b < (in_memory m).blocks → (m.layout.blocks ≤ 1024) × (b < m.layout.blocks)
  life_sized b h = let on = memory_block b h in (on.sized.n_most, on.inside)

  pub life_inside : (b end : ℕ) → b < (in_memory m).blocks → end ≡ at_life b + 4 → end ≤ length m.bytes.now
  life_inside b end h e = let on = memory_block b h in omega (arith, on.sized.long, on.inside)

  pub memory_life : (b start end : ℕ) → b < (in_memory m).blocks → start ≡ at_life b → end ≡ at_life b + 4
      → number (part (end - start) start m.bytes.now) ≡ (in_memory m).life b
  memory_life b start end h s e =
      let on = memory_block b h in
      let four : end - start ≡ 4 = omega arith in
      (λ i. number (part (four i) (s i) m.bytes.now))
      ∙ sym (ap (λ (v : Store). v.life b) on.is ∙ cond-true (ltb b m.layout.blocks) _ _ (lt-ltb b m.layout.blocks on.inside))

  -- the same bytes as a dump array
  pub dump_of : dump_store m.layout.blocks m.layout.pages m.bytes.now ≡ lifeless (in_memory m)
  unfolding memory_store dump_store
  dump_of = lifeless_if (fits m.layout.blocks m.layout.pages (length m.bytes.now))
      (whole m.layout.blocks m.layout.pages m.bytes.now (life_in m.layout.blocks m.bytes.now))

  -- what a dump array's shape says of it, and no life where there is no block
  pub memory_shape : (d : Dump) → in_dump d ≡ lifeless (in_memory m) → Shape (in_dump d) → Shape (in_memory m)
  unfolding memory_store
  memory_shape d e known =
      let shape = subst Shape e known in
      record {
        sizes = shape.sizes;
        long = shape.long;
        small = shape.small;
        no_page = shape.no_page;
        no_life = λ b h. no_life_if (fits m.layout.blocks m.layout.pages (length m.bytes.now))
            (whole m.layout.blocks m.layout.pages m.bytes.now (life_in m.layout.blocks m.bytes.now)) b
            (λ l. cond-false (ltb b m.layout.blocks) _ _ (le-ltb b m.layout.blocks l)) h;
      }

module _ (d : Dump) where
  -- N and P
  pub dump_blocks : cond (fits d.layout.blocks d.layout.pages (length d.bytes.now)) d.layout.blocks 0 ≡ (in_dump d).blocks
  unfolding dump_store
  dump_blocks = blocks_if (fits d.layout.blocks d.layout.pages (length d.bytes.now)) (whole d.layout.blocks d.layout.pages d.bytes.now (λ _. 0))

  pub dump_pages : cond (fits d.layout.blocks d.layout.pages (length d.bytes.now)) d.layout.pages 0 ≡ (in_dump d).pages
  unfolding dump_store
  dump_pages = pages_if (fits d.layout.blocks d.layout.pages (length d.bytes.now)) (whole d.layout.blocks d.layout.pages d.bytes.now (λ _. 0))

  pub dump_page : (b q size : ℕ) → present (in_dump d) b q size ≡ true
      → Page d.layout.blocks d.layout.pages d.bytes.now (in_dump d) (λ _. 0) b q size
  unfolding dump_store
  dump_page = page_of d.layout.blocks d.layout.pages d.bytes.now (in_dump d) (λ _. 0) (block_of d.layout.blocks d.layout.pages d.bytes.now (λ _. 0))

  -- no block has a life
  pub dump_dead : (b : ℕ) → (in_dump d).life b ≡ 0
  unfolding dump_store
  dump_dead = dead (fits d.layout.blocks d.layout.pages (length d.bytes.now)) (whole d.layout.blocks d.layout.pages d.bytes.now (λ _. 0)) (λ b. refl)
    where
      dead : (t : Bool) (s : Store) → ((b : ℕ) → s.life b ≡ 0) → (b : ℕ) → (cond t s nothing).life b ≡ 0
      dead true s h b = h b
      dead false s h b = refl
