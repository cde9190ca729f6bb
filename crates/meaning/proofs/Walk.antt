-- The invariant of the walk, and what a walk that ends has listed.
use mathlib.Core.Path.{◌≡◌, refl, sym, ◌∙◌, subst}
use mathlib.Core.Bool.{Bool, true, false}
use mathlib.Core.Logic.{inl, inr}
use mathlib.Core.List.Memᴰ
use mathlib.Core.List.{List, [], ◌∷◌, ◌++◌}
use mathlib.Core.Option.{Option, none, some}
use Prim.Native.Nat.{ℕ, zero, suc, ◌-◌, ◌≤◌, ◌<◌}
use native.Mathlib.Nat.{le_of_suc-le-suc, not-suc-le-zero}
use native.Mathlib.Omega.{arith}
use lib.ListN.{length, take, set, length-append, length-set, length-map, length-take, get_or-eq_default, get_or-append, get_or-map}
use lib.Seq.{length-take-le, get_or-take, get_or_at, get_or-set_same, get_or-set_other}
use lib.Dec.{T, ltb}
use borrow.Author.Tests.{ltb-true, ltb-false}
use Rattle.meaning.specs.Job.{Job, size, Safe}
use Rattle.meaning.specs.Rows.{Rows, row_at, values, fits, count}
use Rattle.meaning.specs.List.{Entry, complete, stopped, full}
use Rattle.meaning.specs.Walk.{State, Turn, due, ended, next_at, mark_at, fitted, tested, set_all, After, whole_choice, nothing_fits, variables, ran_out, back, go_back, go_on, whole, enter, make_test, start, steps}
use Rattle.meaning.proofs.Basics.{split, is_T, not_T, lt_or_le}
use Rattle.meaning.proofs.Group.{group_self}
use Rattle.meaning.proofs.Local.{binds_le}
use Rattle.meaning.proofs.Jump.{Agree, agree_suc, Good, AllGood, GroupGood, good_local, Cover, FailAt, Nested, Reason, Landed, reason_whole, reason_nothing, reason_out, back_sound}
use Rattle.meaning.proofs.Enlist.{enlisted, known, over, new, with}
use Rattle.meaning.proofs.Order.{Known, Listed, listed_none, Past, AtOrPast, move_past, listed_known, known_with, known_new, listed_with, past_with, enter_past, leave_past}

-- next rows

fitted_at : (next : List ℕ) (i : ℕ) → row_at (fitted next) i ≡ next_at next i - 1
fitted_at next i = get_or-map (λ (k : ℕ). k - 1) next i 0

-- the rows that fitted before p, and the next row there
abbrev cursor : List ℕ → ℕ → Rows
cursor next p = row_at (fitted (set next p (suc (next_at next p))))

abbrev pub reached : State → Rows
reached st = cursor st.next st.position

cursor_at : (next : List ℕ) (p : ℕ) → p < length next → cursor next p p ≡ next_at next p
cursor_at next p h = omega (arith, fitted_at (set next p (suc (next_at next p))) p, get_or-set_same next p (suc (next_at next p)) 0 h)

cursor_before : (next : List ℕ) (p i : ℕ) → i < p → cursor next p i ≡ next_at next i - 1
cursor_before next p i h = omega (arith, fitted_at (set next p (suc (next_at next p))) i, get_or-set_other next p i (suc (next_at next p)) 0 (omega arith))

-- marks

take_mark : (marks : List Bool) (n i : ℕ) → T (mark_at (take n marks) i) → (i < n) × T (mark_at marks i)
take_mark marks n i t = elim (lt_or_le i n) [
  | inl l ↦ (l, subst T (get_or-take n marks i false l) t)
  | inr l ↦ absurd (subst T (get_or-eq_default (take n marks) false (omega (arith, length-take n marks))) t)
]

snoc_mark : (marks : List Bool) (i : ℕ) → T (mark_at (marks ++ (false ∷ [])) i) → (i < length marks) × T (mark_at marks i)
snoc_mark marks i t = elim (lt_or_le i (length marks)) [
  | inl l ↦ (l, subst T (get_or-append marks (false ∷ []) false i l) t)
  | inr l ↦ elim (lt_or_le (length marks) i) [
    | inl k ↦ absurd (subst T (get_or-eq_default (marks ++ (false ∷ [])) false (omega (arith, length-append marks (false ∷ [])))) t)
    | inr k ↦ absurd (subst T (get_or_at marks false [] false i (omega arith)) t)
  ]
]

set_mark : (marks : List Bool) (i : ℕ) → i < length marks → T (mark_at (set_all marks) i)
set_mark [] i h = absurd (not-suc-le-zero h)
set_mark (m ∷ marks) zero h = tt
set_mark (m ∷ marks) (suc i) h = set_mark marks i (le_of_suc-le-suc h)

mark_set : (marks : List Bool) (i : ℕ) → T (mark_at (set_all marks) i) → i < length marks
mark_set [] i t = absurd t
mark_set (m ∷ marks) zero t = omega arith
mark_set (m ∷ marks) (suc i) t = omega (arith, mark_set marks i t)

module _ (J : Job) (safe : Safe J.rule) where
  -- The invariant, where the rows at the position may have run out.
  pub record Ready (st : State) : Type 0 where
    pub small : st.position < size J.rule
    pub len : length st.next ≡ suc st.position
    pub wide : length st.marks ≡ suc st.position
    pub rows : (i : ℕ) → i < st.position → next_at st.next i ≡ suc (reached st i)
    pub nested : Nested st.marks
    pub path : (i : ℕ) → i < st.position → Good J (reached st) i
    pub cover : Cover J (reached st) (Known J st.entries) (suc st.position)
    pub fail : (i : ℕ) → i < suc st.position → FailAt J (reached st) st.marks i
    pub new : T st.entered → (s : Rows) → Agree s (reached st) st.position → s st.position < reached st st.position → Good J s st.position → ⊥
    pub listing : Listed J st.entries
    pub past : Past J st.entries (reached st) (suc st.position)

  abbrev pub Fine : Turn → Type 0
  Fine (due st) = Ready st × (next_at st.next st.position < count J st.position)
  Fine (ended complete t es) = Listed J es × ((s : Rows) → AllGood J s → Known J es (values J s))
  Fine (ended stopped t es) = Listed J es
  Fine (ended full t es) = Listed J es

  -- what agrees up to p with rows that do not fit there does not fit either
  pub unfit : (a : Rows) (p : ℕ) → p < size J.rule → fits J p a ≡ false → (s : Rows) → Agree s a (suc p) → Good J s p → ⊥
  unfit a p small e s agree g = not_T e (good_local J p s a (agree p (omega arith)) (λ j n. agree j (let q = binds_le J.rule safe p j small n in omega arith)) g).1

  -- the cursor moves from a to b, at position t: the rows before t stay
  module _ (a b : Rows) (t : ℕ) (stay : Agree b a t) where
    agree_back : (s : Rows) (i : ℕ) → i ≤ t → Agree s b i → Agree s a i
    agree_back s i l agree k h = agree k h ∙ stay k (omega arith)

    pub move_path : t ≤ size J.rule → ((i : ℕ) → i < t → Good J a i) → (i : ℕ) → i < t → Good J b i
    move_path small path i l = good_local J i a b (sym (stay i l)) (λ k n. sym (stay k (let q = binds_le J.rule safe i k (omega arith) n in omega arith))) (path i l)

    pub move_cover : (K : List ℕ → Type 0) → Cover J a K t → ((s : Rows) → AllGood J s → Agree s a t → s t < b t → K (values J s)) → Cover J b K (suc t)
    move_cover K cover here s v i l agree h =
        elim (lt_or_le i t) [
          | inl z ↦ cover s v i z (agree_back s i (omega arith) agree) (subst (λ (x : ℕ). s i < x) (stay i z) h)
          | inr z ↦ let e : i ≡ t = omega arith in
              here s v (agree_back s t (omega arith) (subst (λ (x : ℕ). Agree s b x) e agree)) (subst (λ (x : ℕ). s x < b x) e h)
        ]

    move_fail : (marks marks' : List Bool) → ((i : ℕ) → i < t → mark_at marks' i ≡ false → mark_at marks i ≡ false) → ((i : ℕ) → i < t → FailAt J a marks i)
        → (mark_at marks' t ≡ false → (s : Rows) → Agree s a t → s t < b t → GroupGood J t s → ⊥) → (i : ℕ) → i < suc t → FailAt J b marks' i
    move_fail marks marks' clear fail here i l k s agree h g =
        elim (lt_or_le i t) [
          | inl z ↦ fail i z (clear i z k) s (agree_back s i (omega arith) agree) (subst (λ (x : ℕ). s i < x) (stay i z) h) g
          | inr z ↦ let e : i ≡ t = omega arith in
              here (subst (λ (x : ℕ). mark_at marks' x ≡ false) e k) s (agree_back s t (omega arith) (subst (λ (x : ℕ). Agree s b x) e agree)) (subst (λ (x : ℕ). s x < b x) e h) (subst (λ (x : ℕ). GroupGood J x s) e g)
        ]

  -- what is known behind position p, where the rows that fitted are those of a
  record Behind (a : Rows) (p : ℕ) (next : List ℕ) (marks : List Bool) (es : List Entry) : Type 0 where
    small : p ≤ size J.rule
    len : p ≤ length next
    wide : p ≤ length marks
    rows : (i : ℕ) → i < p → next_at next i ≡ suc (a i)
    nested : Nested marks
    path : (i : ℕ) → i < p → Good J a i
    cover : Cover J a (Known J es) p
    fail : (i : ℕ) → i < p → FailAt J a marks i
    listing : Listed J es

  -- going back from there
  module _ (a : Rows) (p : ℕ) (next : List ℕ) (marks : List Bool) (tests : ℕ) (es : List Entry) (B : Behind a p next marks es) (past : AtOrPast J es a p) where
    arrive : (t : ℕ) → Landed J a marks (Known J es) next p (some t)
        → Fine (due (record { position = t; next = take (suc t) next; marks = take (suc t) marks; entered = false; tests = tests; entries = es }))
    arrive t l = (
      record {
        small = omega (arith, l.0, B.small);
        len = length-take-le (suc t) next (omega (arith, l.0, B.len));
        wide = length-take-le (suc t) marks (omega (arith, l.0, B.wide));
        rows = λ i h. omega (arith, stay i h, kept i (omega arith), B.rows i (omega (arith, l.0)));
        nested = λ i j h u. let r = take_mark marks (suc t) j u in subst T (sym (get_or-take (suc t) marks i false (omega arith))) (B.nested i j h r.1);
        path = move_path a b t stay (omega (arith, l.0, B.small)) (λ i h. B.path i (omega (arith, l.0)));
        cover = move_cover a b t stay (Known J es) (λ s v i h. B.cover s v i (omega (arith, l.0)))
            (λ s v agree h. elim (lt_or_le (s t) (a t)) [ inl k ↦ B.cover s v t l.0 agree k | inr k ↦ l.2.0 s v (agree_suc s a t agree (omega (arith, step))) ]);
        fail = move_fail a b t stay marks (take (suc t) marks) (λ i h k. sym (get_or-take (suc t) marks i false (omega arith)) ∙ k) (λ i h. B.fail i (omega (arith, l.0)))
            (λ k s agree h g. let m = sym (get_or-take (suc t) marks t false (omega arith)) ∙ k in
            elim (lt_or_le (s t) (a t)) [ inl z ↦ B.fail t l.0 m s agree z g | inr z ↦ l.2.1 m s (agree_suc s a t agree (omega (arith, step))) g ]);
        new = λ u. absurd u;
        listing = B.listing;
        past = move_past J a b t p l.0 stay step es past;
      },
      subst (λ (x : ℕ). x < count J t) (sym (kept t (omega arith))) l.1,
    )
      where
        b : Rows
        b = cursor (take (suc t) next) t

        kept : (i : ℕ) → i < suc t → next_at (take (suc t) next) i ≡ next_at next i
        kept i h = get_or-take (suc t) next i 0 h

        step : b t ≡ suc (a t)
        step = omega (arith, cursor_at (take (suc t) next) t (omega (arith, length-take-le (suc t) next (omega (arith, l.0, B.len)))), kept t (omega arith), B.rows t l.0)

        stay : Agree b a t
        stay i h = omega (arith, cursor_before (take (suc t) next) t i h, kept i (omega arith), B.rows i (omega (arith, l.0)))

    go_back_fine : (after : After) → Reason J a marks (Known J es) (variables J.rule after p) p → Fine (go_back J after p next marks tests es)
    unfolding go_back
    go_back_fine after r = go (back J next marks (variables J.rule after p) p) refl (back_sound J safe a marks (Known J es) next p (variables J.rule after p) B.small B.nested B.rows B.path B.cover B.fail r)
      where
        go : (o : Option ℕ) → back J next marks (variables J.rule after p) p ≡ o → Landed J a marks (Known J es) next p o → Fine (go_back J after p next marks tests es)
        go none e l = rw (e, go_back) (B.listing, l)
        go (some t) e l = rw (e, go_back) (arrive t l)

  go_on_fine : (st : State) → Ready st → Fine (go_on J st)
  unfolding go_on
  go_on_fine st I =
      elim (split (ltb (next_at st.next p) (count J p))) [
        | inl c ↦ rw (c, go_on) (I, ltb-true _ _ c)
        | inr c ↦ elim (split st.entered) [
          | inl f ↦ rw (c, go_on, f) (back_from nothing_fits (reason_nothing J safe a st.marks (Known J st.entries) p I.small (λ s agree g. I.new (is_T f) s agree (under c s g.0) g)))
          | inr f ↦ rw (c, go_on, f) (back_from (ran_out st.marks p) (reason_out J safe a st.marks (Known J st.entries) p I.small I.nested I.path
              (λ s v agree. I.cover s v p (omega arith) agree (under c s (v p I.small).0))
              (λ e s agree g. I.fail p (omega arith) e s agree (under c s (g p (group_self J.rule p)).0) g)))
        ]
      ]
    where
      p : ℕ
      p = st.position

      a : Rows
      a = cursor st.next p

      under : ltb (next_at st.next p) (count J p) ≡ false → (s : Rows) → s p < count J p → s p < a p
      under c s h = omega (arith, ltb-false (next_at st.next p) (count J p) c, cursor_at st.next p (omega (arith, I.len)))

      back_from : (after : After) → Reason J a st.marks (Known J st.entries) (variables J.rule after p) p → Fine (go_back J after p st.next st.marks st.tests st.entries)
      back_from = go_back_fine a p st.next st.marks st.tests st.entries
          (record {
            small = omega (arith, I.small);
            len = omega (arith, I.len);
            wide = omega (arith, I.wide);
            rows = I.rows;
            nested = I.nested;
            path = I.path;
            cover = λ s v i h. I.cover s v i (omega arith);
            fail = λ i h. I.fail i (omega arith);
            listing = I.listing;
          })
          (leave_past J a a p (λ i h. refl) st.entries I.past)

  module _ (lent : ℕ) where
    whole_fine : (next : List ℕ) (marks : List Bool) (tests : ℕ) (es : List Entry) → length next ≡ size J.rule → Behind (row_at (fitted next)) (size J.rule) next marks es
        → Past J es (row_at (fitted next)) (size J.rule) → Fine (whole J lent next marks tests es)
    unfolding whole
    whole_fine next marks tests es len B past =
        elim (enlisted J lent (fitted next) tests es) [
          | known t q ↦ rw (q, whole) (back_from es B.cover B.listing (λ f at. inr (past f at)) (listed_known J _ es t))
          | over e n q ↦ rw (q, whole) B.listing
          | new e r q ↦ rw (q, whole) (back_from (with es tests (fitted next)) (λ s u i h agree l. known_with J es tests (fitted next) (B.cover s u i h agree l))
              (listed_with J es tests (fitted next) B.listing (length-map next (λ (k : ℕ). k - 1) ∙ len) B.path past B.cover e)
              (past_with J es tests (fitted next) past)
              (known_new J es tests (fitted next)))
        ]
      where
        a : Rows
        a = row_at (fitted next)

        all : (i : ℕ) → i < size J.rule → T (mark_at (set_all marks) i)
        all i h = set_mark marks i (omega (arith, B.wide))

        back_from : (fs : List Entry) → Cover J a (Known J fs) (size J.rule) → Listed J fs → AtOrPast J fs a (size J.rule) → Known J fs (values J a)
            → Fine (go_back J whole_choice (size J.rule) next (set_all marks) tests fs)
        back_from fs c l q k = go_back_fine a (size J.rule) next (set_all marks) tests fs
            (record {
              small = omega arith;
              len = B.len;
              wide = omega (arith, B.wide, length-map marks (λ (m : Bool). true));
              rows = B.rows;
              nested = λ i j h t. set_mark marks i (omega (arith, mark_set marks j t));
              path = B.path;
              cover = c;
              fail = λ i h e. absurd (not_T e (all i h));
              listing = l;
            })
            q whole_choice (reason_whole J safe a (set_all marks) (Known J fs) all k)

    enter_fine : (p : ℕ) (next : List ℕ) (marks : List Bool) (tests : ℕ) (es : List Entry) → length next ≡ p → length marks ≡ p → Behind (row_at (fitted next)) p next marks es
        → Past J es (row_at (fitted next)) p → Fine (enter J lent p next marks tests es)
    unfolding enter
    enter_fine p next marks tests es len wide B past =
        elim (split (ltb p (size J.rule))) [
          | inl e ↦ rw (e, enter) (go_on_fine _ (ready e))
          | inr e ↦ let q : p ≡ size J.rule = omega (arith, ltb-false p (size J.rule) e, B.small) in
              rw (e, enter) (whole_fine next marks tests es (omega arith) (subst (λ (x : ℕ). Behind a x next marks es) q B) (subst (λ (x : ℕ). Past J es a x) q past))
        ]
      where
        a : Rows
        a = row_at (fitted next)

        b : Rows
        b = cursor (next ++ (0 ∷ [])) p

        longer : length (next ++ (0 ∷ [])) ≡ suc p
        longer = omega (arith, length-append next (0 ∷ []))

        kept : (i : ℕ) → i < p → next_at (next ++ (0 ∷ [])) i ≡ next_at next i
        kept i h = get_or-append next (0 ∷ []) 0 i (omega arith)

        step : b p ≡ 0
        step = omega (arith, cursor_at (next ++ (0 ∷ [])) p (omega (arith, longer)), get_or_at next 0 [] 0 p len)

        stay : Agree b a p
        stay i h = omega (arith, cursor_before (next ++ (0 ∷ [])) p i h, kept i h, B.rows i h)

        kept_mark : (i : ℕ) → i < p → mark_at (marks ++ (false ∷ [])) i ≡ mark_at marks i
        kept_mark i h = get_or-append marks (false ∷ []) false i (omega arith)

        ready : ltb p (size J.rule) ≡ true → Ready (record { position = p; next = next ++ (0 ∷ []); marks = marks ++ (false ∷ []); entered = true; tests = tests; entries = es })
        ready e = record {
          small = ltb-true _ _ e;
          len = longer;
          wide = omega (arith, length-append marks (false ∷ []));
          rows = λ i h. omega (arith, stay i h, kept i h, B.rows i h);
          nested = λ i j h t. let r = snoc_mark marks j t in subst T (sym (kept_mark i (omega arith))) (B.nested i j h r.1);
          path = move_path a b p stay B.small B.path;
          cover = move_cover a b p stay (Known J es) B.cover (λ s v agree h. absurd (omega (arith, step)));
          fail = move_fail a b p stay marks (marks ++ (false ∷ [])) (λ i h k. sym (kept_mark i h) ∙ k) B.fail (λ k s agree h g. omega (arith, step));
          new = λ t s agree h g. omega (arith, step);
          listing = B.listing;
          past = enter_past J a b p stay es past;
        }

    test_fine : (st : State) → Fine (due st) → Fine (make_test J lent st)
    unfolding make_test
    test_fine st (I, row) =
        elim (split (fits J p a)) [
          | inl e ↦ rw (e, make_test) (enter_fine (suc p) next st.marks (suc st.tests) st.entries (longer ∙ I.len) I.wide (behind e) I.past)
          | inr e ↦ rw (e, make_test) (go_on_fine (tested st) (ready e))
        ]
      where
        p : ℕ
        p = st.position

        next : List ℕ
        next = (tested st).next

        a : Rows
        a = cursor st.next p

        b : Rows
        b = cursor next p

        longer : length next ≡ length st.next
        longer = length-set st.next p (suc (next_at st.next p))

        at : a p ≡ next_at st.next p
        at = cursor_at st.next p (omega (arith, I.len))

        rows : (i : ℕ) → i < suc p → next_at next i ≡ suc (a i)
        rows i h = elim (lt_or_le i p) [
          | inl k ↦ get_or-set_other st.next p i (suc (next_at st.next p)) 0 (omega arith) ∙ I.rows i k
          | inr k ↦ let q : p ≡ i = omega arith in subst (λ (x : ℕ). next_at next x ≡ suc (a x)) q (omega (arith, at, get_or-set_same st.next p (suc (next_at st.next p)) 0 (omega (arith, I.len))))
        ]

        behind : fits J p a ≡ true → Behind a (suc p) next st.marks st.entries
        behind e = record {
          small = I.small;
          len = omega (arith, longer, I.len);
          wide = omega (arith, I.wide);
          rows = rows;
          nested = I.nested;
          path = λ i h. elim (lt_or_le i p) [ inl k ↦ I.path i k | inr k ↦ subst (λ (x : ℕ). Good J a x) (omega arith) (subst (λ (x : ℕ). x < count J p) (sym at) row, is_T e) ];
          cover = I.cover;
          fail = I.fail;
          listing = I.listing;
        }

        step : b p ≡ suc (a p)
        step = omega (arith, cursor_at next p (omega (arith, longer, I.len)), rows p (omega arith))

        stay : Agree b a p
        stay i h = omega (arith, cursor_before next p i h, rows i (omega arith))

        -- what goes as far as the row tested does not fit either
        fails : fits J p a ≡ false → (s : Rows) → Agree s a p → s p < b p → (s p < a p → ⊥) → Good J s p → ⊥
        fails e s agree h k g = unfit a p I.small e s (agree_suc s a p agree (elim (lt_or_le (s p) (a p)) [ inl l ↦ absurd (k l) | inr l ↦ omega (arith, step) ])) g

        ready : fits J p a ≡ false → Ready (tested st)
        ready e = record {
          small = I.small;
          len = longer ∙ I.len;
          wide = I.wide;
          rows = λ i h. omega (arith, stay i h, rows i (omega arith));
          nested = I.nested;
          path = move_path a b p stay (omega (arith, I.small)) I.path;
          cover = move_cover a b p stay (Known J st.entries) (λ s v i h. I.cover s v i (omega arith))
              (λ s v agree h. elim (lt_or_le (s p) (a p)) [ inl k ↦ I.cover s v p (omega arith) agree k | inr k ↦ absurd (fails e s agree h (λ l. omega arith) (v p I.small)) ]);
          fail = move_fail a b p stay st.marks st.marks (λ i h k. k) (λ i h. I.fail i (omega arith))
              (λ m s agree h g. elim (lt_or_le (s p) (a p)) [ inl k ↦ I.fail p (omega arith) m s agree k g | inr k ↦ fails e s agree h (λ l. omega arith) (g p (group_self J.rule p)) ]);
          new = λ t s agree h g. let agree' = agree_back a b p stay s p (omega arith) agree in
              elim (lt_or_le (s p) (a p)) [ inl k ↦ I.new t s agree' k g | inr k ↦ fails e s agree' h (λ l. omega arith) g ];
          listing = I.listing;
          past = move_past J a b p (suc p) (omega arith) stay step st.entries (λ f at. inr (I.past f at));
        }

    steps_fine : (n : ℕ) (x : Turn) → Fine x → Fine (steps J lent n x)
    unfolding steps
    steps_fine zero x f = f
    steps_fine (suc n) (ended e t es) f = f
    steps_fine (suc n) (due st) f = steps_fine n (make_test J lent st) (test_fine st f)

    pub walk_fine : (n : ℕ) → Fine (steps J lent n (start J lent))
    unfolding start
    walk_fine n = steps_fine n (start J lent) (enter_fine 0 [] [] 0 [] refl refl
        (record {
          small = omega arith;
          len = omega arith;
          wide = omega arith;
          rows = λ i h. absurd (omega arith);
          nested = λ i j h t. absurd t;
          path = λ i h. absurd (omega arith);
          cover = λ s v i h. absurd (omega arith);
          fail = λ i h. absurd (omega arith);
          listing = listed_none J;
        })
        (λ e at. absurd (Memᴰ.not-nil at)))
