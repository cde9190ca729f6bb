-- From the search of an accepted job to its answer and the lent cells, with either engine: the entries can be read off the cells.
use mathlib.Core.Path.{◌≡◌, refl, sym, ap, ◌∙◌, subst}
use mathlib.Core.List.{List, [], ◌∷◌, ◌++◌, map, flatten, append_assoc, Memᴰ}
use Prim.Native.Nat.{ℕ, zero, suc, ◌+◌, ◌-◌, ◌*◌, ◌≤◌, ◌<◌}
use native.Mathlib.Nat.{suc-mul}
use native.Mathlib.Omega.{arith}
use lib.ListN.{length, take, drop, length-map}
use lib.Seq.{take_at, drop_at, take-add}
use Rattle.meaning.specs.Job.{Rule, Job}
use Rattle.meaning.specs.Reading.{refused, accepted, reading}
use Rattle.meaning.specs.Relevant.{Instance, relevant, Listing}
use Rattle.meaning.specs.Rows.{row_at, value, values}
use Rattle.meaning.specs.List.{Entry, Ending, complete, stopped, full, Searched, support, entry_size, instance_of, cells, written, cells_after, entries_in, instance_in, Begins}
use Rattle.meaning.specs.Plain.{plain_count}
use Rattle.meaning.specs.Ground.{refusal, entries_of, tests_of, Ended, answer_of, Grounded, Engine, ground_by, list_of, instances_of}
use Rattle.meaning.proofs.Basics.{mem_map, begins_map}
use Rattle.meaning.proofs.Engine.{Lawful, beginning as search-beginning, complete_one as search-one}
use Rattle.meaning.proofs.Answers.{length_cells, completed_listing, room_enough, full_lacks, cells_kept, cells_lent}

pub ground_refused : (engine : Engine) (bytes : List ℕ) (number place : ℕ) → reading bytes ≡ refused number place → (a : ℕ) (held : List ℕ)
    → ground_by engine bytes a held ≡ record { answer = refusal number place; cells = held }
unfolding ground_by
ground_refused engine bytes number place e a held = rw (e, ground_by) refl

pub ground_accepted : (engine : Engine) (bytes : List ℕ) (J : Job) → reading bytes ≡ accepted J → (a : ℕ) (held : List ℕ)
    → let s = engine J a (length held) in ground_by engine bytes a held ≡ record { answer = answer_of s; cells = cells_after J s held }
unfolding ground_by
ground_accepted engine bytes J e a held = rw (e, ground_by) refl

-- entries of one size, read off the cells that they fill
entries_in_lem : (R : Rule) (ls : List (List ℕ)) (rest : List ℕ) → ((l : List ℕ) → Memᴰ l ls → length l ≡ entry_size R) → entries_in R (length ls) (flatten ls ++ rest) ≡ ls
unfolding entries_in flatten
entries_in_lem R [] rest w = refl
entries_in_lem R (l ∷ ls) rest w =
    let q = w l (Memᴰ.head refl) in
    rw (append_assoc l (flatten ls) rest, take_at l (flatten ls ++ rest) (entry_size R) q, drop_at l (flatten ls ++ rest) (entry_size R) q)
    (ap (λ (m : List (List ℕ)). l ∷ m) (entries_in_lem R ls rest (λ k at. w k (Memᴰ.tail at))))

pub entries_flat : (R : Rule) (n : ℕ) (cs : List ℕ) → flatten (entries_in R n cs) ≡ take (n * entry_size R) cs
unfolding entries_in flatten
entries_flat R zero cs = let z : 0 * entry_size R ≡ 0 = omega arith in rw z refl
entries_flat R (suc n) cs =
    let z : suc n * entry_size R ≡ entry_size R + n * entry_size R = omega (arith, suc-mul n (entry_size R)) in
    rw (z, take-add (entry_size R) (n * entry_size R) cs) (ap (λ (l : List ℕ). take (entry_size R) cs ++ l) (entries_flat R n (drop (entry_size R) cs)))

map_map_same : {A B C : Type 0} (g : B → C) (f : A → B) (h : A → C) (xs : List A) → ((x : A) → Memᴰ x xs → g (f x) ≡ h x) → map g (map f xs) ≡ map h xs
map_map_same g f h [] e = refl
map_map_same g f h (x ∷ xs) e = λ i. e x (Memᴰ.head refl) i ∷ map_map_same g f h xs (λ y at. e y (Memᴰ.tail at)) i

all_map : {A B : Type 0} (P : B → Type 0) (f : A → B) (xs : List A) → ((x : A) → Memᴰ x xs → P (f x)) → (y : B) → Memᴰ y (map f xs) → P y
all_map P f xs h y at = let w = mem_map f xs y at in subst P (sym w.2) (h w.0 w.1)

module _ (J : Job) where
  instance_is : (e : Entry) → instance_in J.rule (cells J e) ≡ instance_of J e
  unfolding cells values
  instance_is e =
      let v = map (value J (row_at e.rows)) (relevant J.rule) in
      let n = length-map (relevant J.rule) (value J (row_at e.rows)) in
      let t = take_at v (support J.rule.body e.rows) (length (relevant J.rule)) n in
      let d = drop_at v (support J.rule.body e.rows) (length (relevant J.rule)) n in
      λ i. record { values = t i; support = d i }

module _ (engine : Engine) (J : Job) (L : Lawful J (engine J)) (bytes : List ℕ) (is : reading bytes ≡ accepted J) where
  -- the answer and the cells, by the engine
  module _ (a : ℕ) (held : List ℕ) where
    abbrev es : List Entry
    es = (engine J a (length held)).entries

    answer_is : (ground_by engine bytes a held).answer ≡ answer_of (engine J a (length held))
    answer_is = ap (λ (g : Grounded). g.answer) (ground_accepted engine bytes J is a held)

    ends : (e : Ending) → Ended e (ground_by engine bytes a held).answer → (engine J a (length held)).ending ≡ e
    ends e t = subst (Ended e) answer_is t

    -- the list in the cells is the engine's
    pub list_is : list_of J.rule (ground_by engine bytes a held) ≡ map (cells J) es
    list_is =
        rw (ground_accepted engine bytes J is a held, ← length-map es (cells J))
        (entries_in_lem J.rule (map (cells J) es) (drop (length (flatten (map (cells J) es))) held)
        (all_map (λ (l : List ℕ). length l ≡ entry_size J.rule) (cells J) es (λ e at. length_cells J e (L.wide a (length held) e at))))

    pub instances_are : instances_of J.rule (ground_by engine bytes a held) ≡ map (instance_of J) es
    instances_are = ap (map (instance_in J.rule)) list_is ∙ map_map_same (instance_in J.rule) (cells J) (instance_of J) es (λ e at. instance_is J e)

  pub listing_exists : (M : List Instance) × Listing J M
  listing_exists = (_, completed_listing J (engine J) L)

  pub complete_listing : (a : ℕ) (held : List ℕ) → Ended complete (ground_by engine bytes a held).answer → Listing J (instances_of J.rule (ground_by engine bytes a held))
  complete_listing a held t = subst (Listing J) (sym (instances_are a held)) (L.listing a (length held) (ends a held complete t))

  pub beginning : (a a' : ℕ) (held held' : List ℕ) → Ended complete (ground_by engine bytes a' held').answer → Begins (list_of J.rule (ground_by engine bytes a held)) (list_of J.rule (ground_by engine bytes a' held'))
  beginning a a' held held' t = rw (list_is a held, list_is a' held')
      (begins_map (cells J) (engine J a (length held)).entries (engine J a' (length held')).entries (search-beginning J (engine J) L a (length held) a' (length held') (ends a' held' complete t)))

  pub complete_one : (a a' : ℕ) (held held' : List ℕ) → Ended complete (ground_by engine bytes a held).answer → Ended complete (ground_by engine bytes a' held').answer
      → ((ground_by engine bytes a held).answer ≡ (ground_by engine bytes a' held').answer) × (list_of J.rule (ground_by engine bytes a held) ≡ list_of J.rule (ground_by engine bytes a' held'))
  complete_one a a' held held' t t' =
      let q = search-one J (engine J) L a (length held) a' (length held') (ends a held complete t) (ends a' held' complete t') in
      (answer_is a held ∙ ap answer_of q ∙ sym (answer_is a' held'), list_is a held ∙ ap (λ (s : Searched). map (cells J) s.entries) q ∙ sym (list_is a' held'))

  pub longer : (a more : ℕ) (held : List ℕ) → Begins (list_of J.rule (ground_by engine bytes a held)) (list_of J.rule (ground_by engine bytes (a + more) held))
  longer a more held = rw (list_is a held, list_is (a + more) held) (begins_map (cells J) (engine J a (length held)).entries (engine J (a + more) (length held)).entries (L.more_allowance a more (length held)))

  pub settled : (a more : ℕ) (held : List ℕ) → (Ended stopped (ground_by engine bytes a held).answer → ⊥) → ground_by engine bytes (a + more) held ≡ ground_by engine bytes a held
  settled a more held t =
      let q = L.same_answer a more (length held) (λ e. t (subst (Ended stopped) (sym (answer_is a held)) e)) in
      ground_accepted engine bytes J is (a + more) held ∙ (λ i. record { answer = answer_of (q i); cells = written (map (cells J) (q i).entries) held }) ∙ sym (ground_accepted engine bytes J is a held)

  pub tests_bound : (a : ℕ) (held : List ℕ) → let r = (ground_by engine bytes a held).answer in
      (tests_of r ≤ plain_count J) × (tests_of r ≤ a) × (Ended stopped r → (tests_of r ≡ a) × (a < plain_count J))
  tests_bound a held = let m = L.made a (length held) in rw (answer_is a held) (m.0, omega (arith, m.1), λ q. omega (arith, m.2 q))

  -- what a complete search's tests are, a complete answer's are
  pub tests_are : (n a : ℕ) (held : List ℕ) → ((engine J a (length held)).ending ≡ complete → (engine J a (length held)).tests ≡ n)
      → let r = (ground_by engine bytes a held).answer in Ended complete r → tests_of r ≡ n
  tests_are n a held h = rw (answer_is a held) h

  pub plain_suffices : (M : List Instance) → Listing J M → (a : ℕ) (held : List ℕ) → plain_count J ≤ a → length M * entry_size J.rule ≤ length held → Ended complete (ground_by engine bytes a held).answer
  plain_suffices M l a held h r = rw (answer_is a held) (room_enough J (engine J) L M l a (length held) h r)

  pub full_at : (M : List Instance) → Listing J M → (a : ℕ) (held : List ℕ) → let r = (ground_by engine bytes a held).answer in
      Ended full r → (entries_of r < length M) × (length held - entries_of r * entry_size J.rule < entry_size J.rule)
  full_at M l a held = rw (answer_is a held) (λ q. (full_lacks J (engine J) L M l a (length held) q, L.over a (length held) q))

  pub cells_after_lem : (a : ℕ) (held : List ℕ) → let g = ground_by engine bytes a held in let n = entries_of g.answer * entry_size J.rule in
      (take n g.cells ≡ flatten (list_of J.rule g)) × (drop n g.cells ≡ drop n held) × (length g.cells ≡ length held)
  cells_after_lem a held = (
    sym (entries_flat J.rule (entries_of (ground_by engine bytes a held).answer) (ground_by engine bytes a held).cells),
    rw (ground_accepted engine bytes J is a held) (cells_kept J (engine J) L a held),
    rw (ground_accepted engine bytes J is a held) (cells_lent J (engine J) L a held),
  )
