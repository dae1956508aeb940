-- The encrypted shares of the accepted dealings, multiplied member by member: the turns of the loop over the dealers, from the last to the
-- first. And what added shares are judged with.
use mathlib.Core.Path.{◌≡◌, refl, sym, ap, ◌∙◌}
use mathlib.Core.Bool.{Bool, true, false, ◌&&◌}
use mathlib.Core.List.{List, [], ◌∷◌, ◌++◌}
use mathlib.Core.Logic.{inr}
use Prim.Native.Nat.{ℕ, zero, suc, ◌-◌, ◌*◌, ◌<◌, ◌≤◌}
use native.Mathlib.Omega.{arith}
use borrow.Author.Tests.{eqb-true, ne_eqb}
use lib.ListN.{length, take, drop, replicate}
use lib.Seq.{take_all, drop_at}
use Rattle.std.proofs.lemmas.List.{drop-replicate}
use lib.Dec.{eqb}
use Rattle.words.specs.Choice.{pick}
use Rattle.words.specs.Lists.{map, all, up_from, filled, entry}
use Rattle.words.specs.Checks.{Outcome, Met}
use Rattle.words.proofs.Lists.{All-to, map-all, map-length, map_same, up-length}
use Rattle.words.proofs.Tests.{true-all, and-true}
use Rattle.words.proofs.Checks.{is-value}
use Rattle.field.specs.Residue.{mul}
use Rattle.group.specs.Element.{is_element}
use Rattle.sharing.specs.Setting.{ProperSetting, members}
use Rattle.sharing.specs.declared.Setting.{Setting}
use Rattle.sharing.proofs.EachMember.{each-members, members-front, member-entry, entries-front}
use Rattle.sharing.proofs.Sums.{products-element}
use Rattle.lines.specs.Lines.{Y_in}
use Rattle.dealing.proofs.Judged.{dealing-exactly}
use Rattle.share.specs.Share.{added_form, is_dealer}
use Rattle.board.specs.Search.{filter}
use Rattle.board.specs.Board.{board_checks, keys_in, line_count, lines_of}
use Rattle.board.proofs.Order.{reached}
use Rattle.board.proofs.LineRun.{lines-exact}
use Rattle.board.proofs.Searches.{filter-up}
use Rattle.verdicts.specs.Shares.{Judges, judges}
use Rattle.verdicts.specs.Verdict.{dealing_answer, is_accepted, secret_by, verdict_from, verdict_on}
use Rattle.verdicts.specs.Posted.{SharesOn}
use Rattle.verdicts.specs.Gathered.{times_accepted}
use Rattle.verdicts.specs.Added.{accepted_dealers, multiplied_at, multiplied}
use Rattle.verdicts.specs.declared.Secret.{Secret}
use Rattle.verdicts.specs.declared.Verdict.{Verdict}
use Rattle.verdicts.specs.declared.Verdict.TheVariants.{None, Refused, Accepted}
use Rattle.verdicts.proofs.Turns.{dealers_above, dealers-none, dealers-more, dealers-all}
use Rattle.std.specs.Prelude.{Ok, Err, is_ok}
use Rattle.words.specs.declared.refusal.Refusal.TheVariants.{Incomplete}

-- as many numbers in the place of the first n of an array
refilled : (m n : ℕ) (xs ys : List ℕ) {l : List ℕ} → length xs ≡ n → length ys ≡ n → l ≡ filled m xs → ys ++ drop n l ≡ filled m ys
unfolding filled
refilled m n xs ys f g e =
    let s : length xs ≡ length ys = omega arith in
    ap (λ (r : List ℕ). ys ++ drop n r) e
    ∙ ap (λ (r : List ℕ). ys ++ r) (drop_at xs (replicate (m - length xs) 0) n f)
    ∙ ap (λ (k : ℕ). ys ++ replicate (m - k) 0) s

-- and in an array of zeros
over-zeros : (m n : ℕ) (xs : List ℕ) → length xs ≡ n → xs ++ drop n (replicate m 0) ≡ filled m xs
unfolding filled
over-zeros m n xs f = ap (λ (r : List ℕ). xs ++ r) (drop-replicate {X = ℕ} n m 0 ∙ ap (λ (k : ℕ). replicate (m - k) 0) (sym f))

-- ---- accepted by the verdict
abbrev pub accepts : Verdict → Bool
accepts None = false
accepts (Refused k) = false
accepts (Accepted s) = true

pub not-accepted : (v : Verdict) → ((s : Secret) → v ≡ Accepted s → ⊥) → accepts v ≡ false
not-accepted None n = refl
not-accepted (Refused k) n = refl
not-accepted (Accepted s) n = absurd (n s refl)

pub verdict-accepts : (J : Judges) (S : Setting) (b : List ℕ) (d : ℕ) → 1 ≤ S.n → accepts (verdict_on J S b d) ≡ is_accepted J S b d
unfolding verdict_on is_accepted
verdict-accepts J S b d h =
    by_tests (eqb (line_count b d) 0) (eqb (line_count b d) S.n) (dealing_answer J S b d)
    (λ e. ne_eqb (line_count b d) S.n (λ f. omega (arith, eqb-true (line_count b d) 0 e)))
  where
    by_tests : (x y : Bool) (o : Outcome Unit) → (x ≡ true → y ≡ false)
        → accepts (pick x None (pick y (verdict_from o (secret_by J S b d)) (Refused Incomplete))) ≡ y && is_ok o
    by_tests true y o n = sym (ap (λ (t : Bool). t && is_ok o) (n refl))
    by_tests false true (Ok u) n = refl
    by_tests false true (Err k) n = refl
    by_tests false false o n = refl

-- ---- one dealer's part, by his verdict
module _ (S : Setting) (P : ProperSetting S) (b : List ℕ) (d : ℕ) {v : Verdict} (e : v ≡ verdict_on judges S b d) where
  told : accepts v ≡ is_accepted judges S b d
  told = ap accepts e ∙ verdict-accepts judges S b d P.n-positive

  -- the products by whether his dealing is accepted
  abbrev part : List ℕ → Bool → List ℕ
  part products x = map (λ i. pick x (mul S.group.p (Y_in (lines_of b d) i) (entry products i)) (entry products i)) (members S.n)

  pub part-told : {x : Bool} → accepts v ≡ x → (products : List ℕ) → part products x ≡ map (times_accepted judges S b d (entry products)) (members S.n)
  part-told f products = ap (part products) (sym f ∙ told)

  pub part_none : accepts v ≡ false → (products : List ℕ) → length products ≡ S.n
      → products ≡ map (times_accepted judges S b d (entry products)) (members S.n)
  part_none f products h =
      sym (take_all S.n products (omega arith)) ∙ entries-front products S.n (omega arith) ∙ part-told f products

  -- his n lines
  pub part-size : Met (board_checks S b) → accepts v ≡ true → length (lines_of b d) ≡ 32 * S.n
  unfolding is_accepted
  part-size m f =
      let a = and-true (eqb (line_count b d) S.n) _ (sym told ∙ f) in
      (lines-exact S b P (reached S b m).form d).size ∙ ap (λ (k : ℕ). 32 * k) (eqb-true (line_count b d) S.n a.0)

-- ---- the products over the dealers above d
module _ (J : Judges) (S : Setting) (b : List ℕ) where
  abbrev product_at : List ℕ → ℕ → ℕ
  product_at ds i = multiplied_at S.group.p b Y_in (filter (is_accepted J S b) ds) i

  one_more : (d : ℕ) (ds : List ℕ) (i : ℕ) → times_accepted J S b d (product_at ds) i ≡ product_at (d ∷ ds) i
  one_more d ds i = by-test (is_accepted J S b d)
    where
      by-test : (x : Bool)
          → pick x (mul S.group.p (Y_in (lines_of b d) i) (product_at ds i)) (product_at ds i)
          ≡ multiplied_at S.group.p b Y_in (pick x (d ∷ filter (is_accepted J S b) ds) (filter (is_accepted J S b) ds)) i
      by-test true = refl
      by-test false = refl

  -- the products held
  abbrev held_for : List ℕ → List ℕ
  held_for ds = map (product_at ds) (members S.n)

  pub record ProductsAbove (d : ℕ) (products : List ℕ) : Type 0 where
    pub within : d ≤ S.n
    pub held : products ≡ filled 31 (held_for (dealers_above S.n d))

  -- 1 for each member
  each-one : (i n : ℕ) → replicate n 1 ≡ map (product_at []) (up_from i n)
  each-one i zero = refl
  each-one i (suc n) = ap (λ (l : List ℕ). 1 ∷ l) (each-one (suc i) n)

  pub products-start : {ones : List ℕ} → ones ≡ replicate S.n 1 → ProductsAbove S.n (ones ++ drop S.n (replicate 31 0))
  products-start {ones} e =
      let none : ones ≡ held_for [] = e ∙ each-one 1 S.n in
      record {
        within = omega arith;
        held = over-zeros 31 S.n ones (ap length none ∙ map-length (product_at []) (members S.n) ∙ up-length 1 S.n) ∙ ap (filled 31) none ∙ ap (λ (ds : List ℕ). filled 31 (held_for ds)) (sym (dealers-none S.n));
      }

  module _ (d : ℕ) (products : List ℕ) (T : ProductsAbove d products) where
    front : take S.n products ≡ held_for (dealers_above S.n d)
    front = members-front (product_at (dealers_above S.n d)) S.n T.held

    -- a product for each member
    pub front-size : length (take S.n products) ≡ S.n
    front-size = ap length front ∙ map-length (product_at (dealers_above S.n d)) (members S.n) ∙ up-length 1 S.n

    at-member : (i : ℕ) → 1 ≤ i → i ≤ S.n → entry (take S.n products) i ≡ product_at (dealers_above S.n d) i
    at-member i h l =
        ap (λ (l : List ℕ). entry l i) front
        ∙ member-entry (product_at (dealers_above S.n d)) S.n i h l

    pub products-next : 0 < d → {r : List ℕ} → r ≡ map (times_accepted J S b d (entry (take S.n products))) (members S.n)
        → ProductsAbove (d - 1) (r ++ drop S.n products)
    products-next h {r} e =
        let each = map_same (times_accepted J S b d (entry (take S.n products))) (product_at (d ∷ dealers_above S.n d)) (members S.n)
        (each-members (λ i. times_accepted J S b d (entry (take S.n products)) i ≡ product_at (d ∷ dealers_above S.n d) i) S.n
        (λ i k l.
        ap (λ (x : ℕ). pick (is_accepted J S b d) (mul S.group.p (Y_in (lines_of b d) i) x) x) (at-member i k l)
        ∙ one_more d (dealers_above S.n d) i)) in
        let held : r ≡ held_for (dealers_above S.n (d - 1)) = e ∙ each ∙ ap held_for (sym (dealers-more S.n d h T.within)) in
        record {
          within = omega (arith, T.within);
          held =
              refilled 31 S.n (held_for (dealers_above S.n d)) r (map-length (product_at (dealers_above S.n d)) (members S.n) ∙ up-length 1 S.n)
              (ap length held ∙ map-length (product_at (dealers_above S.n (d - 1))) (members S.n) ∙ up-length 1 S.n) T.held
              ∙ ap (filled 31) held;
        }

    pub products-all : d ≡ 0 → products ≡ filled 31 (multiplied J S b Y_in)
    unfolding multiplied
    products-all z = T.held ∙ ap (λ (ds : List ℕ). filled 31 (held_for ds)) (dealers-all S.n d z)

-- ---- what added shares are judged with: a product of elements for each member
module _ (S : Setting) (b : List ℕ) (P : ProperSetting S) (m : Met (board_checks S b)) where
  line-element : (i : ℕ) → 1 ≤ i → i ≤ S.n → (d : ℕ) → is_accepted judges S b d ≡ true → is_element S.group (Y_in (lines_of b d) i) ≡ true
  unfolding is_accepted
  line-element i h l d a =
      let s = and-true (eqb (line_count b d) S.n) _ a in
      (((dealing-exactly S d (keys_in S.n b) (lines_of b d)).0 (is-value _ s.1).1).posted.lines i h l).Y-element

  product-is-element : (i : ℕ) → 1 ≤ i → i ≤ S.n → is_element S.group (multiplied_at S.group.p b Y_in (accepted_dealers judges S b) i) ≡ true
  product-is-element i h l =
      products-element S.group P.proper (map (λ d. Y_in (lines_of b d) i) (accepted_dealers judges S b))
      (map-all (λ d. Y_in (lines_of b d) i) (λ x. is_element S.group x ≡ true) (accepted_dealers judges S b)
      (All-to (accepted_dealers judges S b) (λ d s. line-element i h l d s.1) (filter-up (is_accepted judges S b) 1 S.n)))

  pub products-front : {l : List ℕ} → l ≡ filled 31 (multiplied judges S b Y_in) → take S.n l ≡ multiplied judges S b Y_in
  unfolding multiplied
  products-front e = members-front (multiplied_at S.group.p b Y_in (accepted_dealers judges S b)) S.n e

  pub added-shares : {Ys : List ℕ} → Ys ≡ multiplied judges S b Y_in → SharesOn S b added_form Ys
  unfolding multiplied is_dealer
  added-shares e =
      let f = multiplied_at S.group.p b Y_in (accepted_dealers judges S b) in
      record {
        proper = P;
        reached = m;
        kind = inr refl;
        dealer = refl;
        size = ap length e ∙ map-length f (members S.n) ∙ up-length 1 S.n;
        elements =
            ap (all (is_element S.group)) e
            ∙ true-all (is_element S.group) (map f (members S.n))
            (map-all f (λ x. is_element S.group x ≡ true) (members S.n)
            (each-members (λ i. is_element S.group (f i) ≡ true) S.n product-is-element));
      }
