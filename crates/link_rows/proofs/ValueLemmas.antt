-- The lists as lists of values.
use Rattle.std.proofs.Common.{◌≡◌, ◌≢◌, ℕ, ◌+◌, ◌-◌, ◌<◌, List, [], ◌∷◌, ◌++◌, length, refl, sym, ap, ◌∙◌, arith, append_assoc, zero, suc}
use Rattle.link_rows.specs.Net.{AllRows, IsNet, nodes}
use Rattle.link_rows.specs.Tables.{Table}
use Rattle.link_rows.specs.Values.{HasOneSequence, HasValues, PushesValue, value_at, values_of, with_pushed}
use Rattle.link_rows.proofs.NetLemmas.{pushes, same}

one-sequence-of : {X : Type 0} (t : Table X) (l : ℕ) (vs ws : List X) → HasValues t l vs → HasValues t l ws → vs ≡ ws
one-sequence-of t l vs ws a b =
    let e : a.rows ≡ b.rows = (same t.net l a.rows l b.rows l a.list.chain b.list.chain a.list.rows b.list.rows a.list.made b.list.made).1 in
    a.values ∙ (ap (λ (xs : List ℕ). values_of t xs) e ∙ sym b.values)

pub one-sequence : {X : Type 0} (t : Table X) → HasOneSequence t
one-sequence t = λ l vs ws a b. one-sequence-of t l vs ws a b

value-kept : {X : Type 0} (vs : List X) (v : X) (i : ℕ) → i < length vs → value_at (vs ++ v ∷ []) i ≡ value_at vs i
value-kept [] v i h = absurd (omega arith)
value-kept (w ∷ vs) v zero h = refl
value-kept (w ∷ vs) v (suc i) h = value-kept vs v i (omega arith)

value-pushed : {X : Type 0} (vs : List X) (v : X) (i : ℕ) → i ≡ length vs → value_at (vs ++ v ∷ []) i ≡ v ∷ []
value-pushed [] v zero e = refl
value-pushed [] v (suc i) e = absurd (omega arith)
value-pushed (w ∷ vs) v zero e = absurd (omega arith)
value-pushed (w ∷ vs) v (suc i) e = value-pushed vs v i (omega arith)

values-kept : {X : Type 0} (t : Table X) (l : ℕ) (v : X) (xs : List ℕ) → nodes t.net ≡ t.net.heads + length t.values → AllRows t.net xs
    → values_of (with_pushed l v t) xs ≡ values_of t xs
values-kept t l v [] n m = refl
values-kept t l v (x ∷ xs) n m =
    let h : x - t.net.heads < length t.values = omega (arith, m.0.0, m.0.1) in
    ap (λ vs. vs ++ values_of (with_pushed l v t) xs) (value-kept t.values v (x - t.net.heads) h) ∙ ap (λ vs. value_at t.values (x - t.net.heads) ++ vs) (values-kept t l v xs n m.1)

pub values-joined : {X : Type 0} (t : Table X) (xs ys : List ℕ) → values_of t (xs ++ ys) ≡ values_of t xs ++ values_of t ys
values-joined t [] ys = refl
values-joined t (x ∷ xs) ys =
    ap (λ vs. value_at t.values (x - t.net.heads) ++ vs) (values-joined t xs ys) ∙ sym (append_assoc (value_at t.values (x - t.net.heads)) (values_of t xs) (values_of t ys))

push-of : {X : Type 0} (t : Table X) (v : X) (l : ℕ) (vs : List X) → IsNet t.net → nodes t.net ≡ t.net.heads + length t.values → HasValues t l vs
    → HasValues (with_pushed l v t) l (vs ++ v ∷ []) × ((m : ℕ) (ws : List X) → HasValues t m ws → m ≢ l → HasValues (with_pushed l v t) m ws)
push-of t v l vs s n a =
    let p = pushes t.net l s a.rows a.list in
    let k = nodes t.net in
    let e : values_of (with_pushed l v t) (k ∷ []) ≡ v ∷ [] =
    ap (λ (ws : List _). ws ++ []) (value-pushed t.values v (k - t.net.heads) (omega arith)) in (
      record {
        rows = a.rows ++ k ∷ [];
        list = p.0;
        values = ap (λ ws. ws ++ v ∷ []) (a.values ∙ sym (values-kept t l v a.rows n a.list.rows))
            ∙ (ap (λ ws. values_of (with_pushed l v t) a.rows ++ ws) (sym e) ∙ sym (values-joined (with_pushed l v t) a.rows (k ∷ [])));
      },
      λ m ws b ne. record { rows = b.rows; list = p.1 m b.rows b.list ne; values = b.values ∙ sym (values-kept t l v b.rows n b.list.rows) },
    )

pub pushes-value : {X : Type 0} (t : Table X) (v : X) → IsNet t.net → nodes t.net ≡ t.net.heads + length t.values → PushesValue t v
pushes-value t v s n = λ l vs a. push-of t v l vs s n a
