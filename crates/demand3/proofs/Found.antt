-- What is searched for on a board is found on its front at the same place, where it is of a kind below 5: the places of lines, the keys and
-- the openings. So verdicts are reached on the front where they are on the board.
use mathlib.Core.Path.{◌≡◌, sym, ap, ◌∙◌, subst}
use mathlib.Core.Bool.{Bool, true, false, not, ◌&&◌}
use mathlib.Core.List.{List}
use mathlib.Core.Logic.{◌⊎◌, inl, inr, ⊎_elim}
use Prim.Native.Nat.{ℕ, zero, suc, ◌+◌, ◌-◌, ◌*◌, ◌%◌, ◌<◌, ◌≤◌}
use native.Mathlib.Decide.{dec_le}
use native.Mathlib.Omega.{arith}
use borrow.Author.Tests.{lt-ltb, le-ltb, le-leb, eq-eqb, ne_eqb}
use lib.ListN.{length, take, drop}
use lib.Dec.{leb, eqb}
use Rattle.words.specs.Choice.{pick}
use Rattle.words.specs.Checks.{Met}
use Rattle.words.specs.Bytes.{records_in, record_at}
use Rattle.words.specs.declared.Record.{Record}
use Rattle.words.proofs.Lists.{map_same}
use Rattle.words.proofs.Stages.{both-met}
use Rattle.words.proofs.Tests.{false-true, true-and}
use Rattle.sharing.specs.Setting.{members}
use Rattle.sharing.specs.declared.Setting.{Setting}
use Rattle.sharing.proofs.EachMember.{members-exactly, each-members}
use Rattle.records.specs.Layout.{key_kind, line_kind, added_kind, dealer_of, member_of, y_of, is_of_round}
use Rattle.records.specs.Keys.{key_checks}
use Rattle.board.specs.Search.{first}
use Rattle.board.specs.Board.{is_shaped, is_below, is_above, in_order, one_record_checks, record_checks, form_checks, place_of, is_at, record_place}
use Rattle.board.specs.Board.{key_place, has_key, key_in, keys_in, board_key_checks, board_checks, lines_start, lines_end, line_count, lines_of}
use Rattle.board.proofs.Searches.{first_passes, first-low}
use Rattle.board.proofs.Order.{reached, record-met, few-records}
use Rattle.board.proofs.KeyRecords.{keys-exact}
use Rattle.demand3.proofs.Front.{Front, record_same}

-- ---- a search over k numbers, and one by the same test over n
module _ (f g : ℕ → Bool) (k n : ℕ) (h : k ≤ n) (same : (i : ℕ) → i < k → f i ≡ g i) where
  -- the second ends among the first k or at their end
  first-same : first g 0 n ≤ k → first f 0 k ≡ first g 0 n
  first-same l =
      let x = first f 0 k in
      let y = first g 0 n in
      let X = first_passes f 0 k in
      let Y = first_passes g 0 n in
      elim (dec_le x y) [
        | yes w ↦ elim (dec_le y x) [
          | yes v ↦ omega arith
          | no v ↦ absurd (false-true (sym (Y.before x (omega arith) (omega arith)) ∙ sym (same x (omega arith)) ∙ X.here (omega arith)))
        ]
        | no w ↦ absurd (false-true (sym (X.before y (omega arith) (omega arith)) ∙ same y (omega (arith, X.upto)) ∙ Y.here (omega (arith, X.upto))))
      ]

  -- none but the first k pass: both searches end at one of them, or neither does
  first_found : ((i : ℕ) → k ≤ i → i < n → g i ≡ false) → ((first g 0 n < k) × (first f 0 k ≡ first g 0 n)) ⊎ ((first g 0 n ≡ n) × (first f 0 k ≡ k))
  first_found none =
      let x = first f 0 k in
      let y = first g 0 n in
      let X = first_passes f 0 k in
      let Y = first_passes g 0 n in
      elim (dec_le k y) [
        | no w ↦ inl (omega arith, first-same (omega arith))
        | yes w ↦ inr (
          elim (dec_le n y) [
            | yes v ↦ omega (arith, Y.upto)
            | no v ↦ absurd (false-true (sym (none y w (omega arith)) ∙ Y.here (omega arith)))
          ],
          elim (dec_le k x) [
            | yes v ↦ omega (arith, X.upto)
            | no v ↦ absurd (false-true (sym (Y.before x (omega arith) (omega arith)) ∙ sym (same x (omega arith)) ∙ X.here (omega arith)))
          ],
        )
      ]

-- ---- a record of kind 5 is neither below an address of a kind below 5 nor at it
module _ (r : Record) (kind d m : ℕ) (e : r.w0 ≡ added_kind) (h : kind < added_kind) where
  not-below : is_below r kind d m ≡ false
  unfolding is_below
  not-below = simp (ne_eqb r.w0 kind (λ f. omega arith)) (le-ltb r.w0 kind (omega arith))

  not_at : is_at r kind d m ≡ false
  unfolding is_at
  not_at = ap (λ (x : Bool). x && (eqb (dealer_of r) d && eqb (member_of r) m)) (ne_eqb r.w0 kind (λ f. omega arith))

module _ {b c : List ℕ} (F : Front b c) where
  -- ---- the places of kinds below 5
  place-upto : (kind d m : ℕ) → kind < added_kind → place_of b kind d m ≤ records_in c
  unfolding place_of
  place-upto kind d m h = elim (dec_le (records_in b) (records_in c)) [
    | yes w ↦ omega (arith, (first_passes (λ i. not (is_below (record_at b i) kind d m)) 0 (records_in b)).upto)
    | no w ↦
        first-low (λ i. not (is_below (record_at b i) kind d m)) 0 (records_in b) (records_in c) (omega arith)
        (ap not (not-below (record_at b (records_in c)) kind d m (F.added (records_in c) (omega arith) (omega arith)) h))
  ]

  place_same : (kind d m : ℕ) → kind < added_kind → place_of c kind d m ≡ place_of b kind d m
  unfolding place_of
  place_same kind d m h =
      first-same (λ i. not (is_below (record_at c i) kind d m)) (λ i. not (is_below (record_at b i) kind d m)) (records_in c) (records_in b) F.within
      (λ i l. ap (λ (r : Record). not (is_below r kind d m)) (record_same F i l))
      (place-upto kind d m h)

  -- ---- a dealer's lines
  pub line-count-same : (d : ℕ) → line_count c d ≡ line_count b d
  unfolding line_count
  line-count-same d = λ j. place_same line_kind d 32 (omega arith) j - place_same line_kind d 0 (omega arith) j

  pub lines_same : (d : ℕ) → lines_of c d ≡ lines_of b d
  unfolding lines_of
  lines_same d =
      (λ j. take (32 * place_same line_kind d 32 (omega arith) j - 32 * place_same line_kind d 0 (omega arith) j) (drop (32 * place_same line_kind d 0 (omega arith) j) c))
      ∙ F.part (32 * lines_end b d - 32 * lines_start b d) (32 * lines_start b d)
      (omega (arith, place-upto line_kind d 0 (omega arith), place-upto line_kind d 32 (omega arith)))

  -- ---- the record with an address of a kind below 5: at one place on both, or on neither
  pub record-found : (kind d m : ℕ) → kind < added_kind
      → ((record_place b kind d m < records_in c) × (record_place c kind d m ≡ record_place b kind d m)) ⊎ ((record_place b kind d m ≡ records_in b) × (record_place c kind d m ≡ records_in c))
  unfolding record_place
  record-found kind d m h =
      first_found (λ i. is_at (record_at c i) kind d m) (λ i. is_at (record_at b i) kind d m) (records_in c) (records_in b) F.within
      (λ i l. ap (λ (r : Record). is_at r kind d m) (record_same F i l))
      (λ i l u. not_at (record_at b i) kind d m (F.added i l u) h)

  -- ---- form and order
  order_same : (i : ℕ) → i < records_in c → in_order c i ≡ in_order b i
  order_same i h =
      let p = record_same F (i - 1) (omega arith) in
      let s = record_same F i h in
      λ j. pick (eqb i 0) true (is_above (p j) (s j))

  records-front : (S : Setting) → Met (form_checks S b) → (i m : ℕ) → i + m ≤ records_in c → Met (record_checks S c i m)
  unfolding form_checks
  records-front S form i zero h = tt
  records-front S form i (suc m) h =
      let one = record-met S b form i (omega (arith, F.within)) in
      let s = record_same F i (omega arith) in
      both-met (one_record_checks S c i) (record_checks S c (suc i) m)
      (ap (is_shaped S.n) s ∙ one.0, (ap (is_of_round S.round) s ∙ one.1.0, (order_same i (omega arith) ∙ one.1.1.0, tt)))
      (records-front S form (suc i) m (omega arith))

  pub form-front : (S : Setting) → Met (form_checks S b) → Met (form_checks S c)
  unfolding form_checks
  form-front S form = (
    true-and (eqb (length c % 32) 0) (leb (records_in c) 2048) (eq-eqb (length c % 32) 0 (omega (arith, F.whole)))
        (le-leb (records_in c) 2048 (omega (arith, F.within, few-records S b form))),
    records-front S form 0 (records_in c) (omega arith),
  )

  -- ---- keys
  module _ (S : Setting) (met : Met (board_checks S b)) where
    key-found : (m : ℕ) → 1 ≤ m → m ≤ S.n → (key_place b m < records_in c) × (key_place c m ≡ key_place b m)
    key-found m h l =
        let x = (keys-exact S b met m h l).inside in
        ⊎_elim (λ w. w) (λ w. absurd (omega (arith, w.0))) (record-found key_kind 0 m (omega arith))

    pub key-same : (m : ℕ) → 1 ≤ m → m ≤ S.n → key_in c m ≡ key_in b m
    unfolding key_in
    key-same m h l =
        let f = key-found m h l in
        ap (λ (i : ℕ). y_of (record_at c i)) f.1 ∙ ap y_of (record_same F (key_place b m) f.0)

    pub keys-same : keys_in S.n c ≡ keys_in S.n b
    keys-same = map_same (key_in c) (key_in b) (members S.n) (each-members (λ m. key_in c m ≡ key_in b m) S.n key-same)

    has-key : (m : ℕ) → 1 ≤ m → m ≤ S.n → has_key c m ≡ true
    has-key m h l = let f = key-found m h l in lt-ltb (key_place c m) (records_in c) (omega (arith, f.0, f.1))

    -- ---- verdicts are reached
    pub reached-front : Met (board_checks S c)
    unfolding board_checks board_key_checks
    reached-front =
        let r = reached S b met in
        both-met (form_checks S c) (board_key_checks S c) (form-front S r.form)
        ((members-exactly (has_key c) S.n).1 has-key, subst (λ (ys : List ℕ). Met (key_checks S.group ys)) (sym keys-same) r.proper)
