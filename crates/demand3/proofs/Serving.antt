-- The accepted shares of a form stand in the order of their records, so their members ascend. The t lowest members are a quorum, and
-- where their shares are true to a polynomial they recover h to its value at 0.
use mathlib.Core.Path.{◌≡◌, sym, ap, ◌∙◌, subst}
use mathlib.Core.Bool.{true}
use mathlib.Core.List.{List}
use mathlib.Core.Logic.{◌⊎◌, ⊎_elim}
use Prim.Native.Nat.{ℕ, ◌<◌, ◌≤◌}
use native.Mathlib.Omega.{arith}
use lib.ListN.{length, take}
use lib.Seq.{length-take-le}
use Rattle.words.specs.Lists.{All, map}
use Rattle.words.specs.Bytes.{records_in, record_at}
use Rattle.words.proofs.Lists.{All-to, All-take, Pairwise-to, Pairwise-take, map-length, map-all, map_same, map-comp, take-map}
use Rattle.field.specs.Polynomial.{value_at}
use Rattle.group.specs.declared.Group.{Group}
use Rattle.sharing.specs.Setting.{ProperSetting}
use Rattle.sharing.specs.Answer.{recovered}
use Rattle.sharing.specs.Carried.{Polynomial, Quorum, secret_of, powers_at}
use Rattle.sharing.specs.declared.Setting.{Setting}
use Rattle.sharing.proofs.Secret.{recovered-secret}
use Rattle.records.specs.Layout.{share_kind, added_kind, member_of, Z_of}
use Rattle.share.specs.declared.ShareForm.{ShareForm}
use Rattle.board.specs.Search.{Ascending}
use Rattle.board.proofs.Searches.{filter-up, filter-ascending}
use Rattle.board.proofs.Order.{Reached, shapes, sorted, members-rise}
use Rattle.verdicts.specs.Shares.{Judges, is_share_in, shares_in, recovered_from}
use Rattle.verdicts.proofs.ShareAnswers.{share-address}
use Rattle.demand3.specs.Claims.{power_of_h}

module _ (J : Judges) {S : Setting} {b : List ℕ} (R : Reached S b) (F : ShareForm) (Ys : List ℕ) where
  abbrev member_in : ℕ → ℕ
  member_in i = member_of (record_at b i)

  abbrev shares : List ℕ
  shares = shares_in J S b F Ys

  pub shares-ascend : Ascending (map member_in shares)
  unfolding shares_in
  shares-ascend =
      filter-ascending (is_share_in J S b F Ys) member_in 0 (records_in b)
      (λ i j l u e f.
      let s = share-address J S b F Ys i e in
      let t = share-address J S b F Ys j f in
      members-rise (sorted S b R.form) i j l (omega arith) (s.0 ∙ sym t.0) (s.1 ∙ sym t.1))

  -- the records whose shares serve
  abbrev pub serving : List ℕ
  serving = take S.t shares

  pub serving-shares : All (λ i. (i < records_in b) × (is_share_in J S b F Ys i ≡ true)) serving
  unfolding shares_in
  serving-shares =
      All-take (λ i. (i < records_in b) × (is_share_in J S b F Ys i ≡ true)) S.t shares
      (All-to shares (λ i s. (omega (arith, s.0.1), s.1)) (filter-up (is_share_in J S b F Ys) 0 (records_in b)))

  module _ (kind : (F.kind ≡ share_kind) ⊎ (F.kind ≡ added_kind)) (l : S.t ≤ length shares) where
    share-member : (i : ℕ) → i < records_in b → is_share_in J S b F Ys i ≡ true → (1 ≤ member_in i) × (member_in i ≤ S.n)
    share-member i h e =
        let z = shapes S b R.form i h in
        let a = (share-address J S b F Ys i e).0 in
        (⊎_elim (λ k. (z.share (a ∙ k)).2) (λ k. (z.added (a ∙ k)).2) kind, z.member)

    serving-quorum : Quorum S (map member_in serving)
    serving-quorum =
        record {
          within = map-all member_in (λ i. (1 ≤ i) × (i ≤ S.n)) serving (All-to serving (λ i s. share-member i s.0 s.1) serving-shares);
          distinct =
              Pairwise-to (map member_in serving) (λ x y l e. omega arith)
              (subst Ascending (take-map member_in S.t shares)
              (Pairwise-take (λ (x y : ℕ). x < y) S.t (map member_in shares) shares-ascend));
          enough = omega (arith, map-length member_in serving, length-take-le S.t shares l);
        }

    pub serving-recover : ProperSetting S → (f : List ℕ) → Polynomial S f
        → All (λ i. Z_of (record_at b i) ≡ power_of_h S.group (value_at S.group.q f (member_in i))) serving
        → recovered_from S.group b serving ≡ power_of_h S.group (secret_of S f)
    unfolding powers_at
    serving-recover P f K T =
        let G : Group = S.group in
        let Z : ℕ → ℕ = λ i. power_of_h G (value_at G.q f i) in
        let trues : map (λ i. Z_of (record_at b i)) serving ≡ map Z (map member_in serving) =
        map_same (λ i. Z_of (record_at b i)) (λ i. Z (member_in i)) serving T ∙ sym (map-comp member_in Z serving) in
        ap (recovered G (map member_in serving)) trues
        ∙ recovered-secret S P f K G.h.0 P.proper.h-generates (map member_in serving) serving-quorum
