-- What becomes of one card: its bytes in the new deck, or that it has none, by what both rules say of it. A live card stays the same one, since a written card reads back under every
-- rule; and one that the new rule takes stays byte for byte. Assumes nothing.
use Prim.Native.Nat.{ℕ, ◌≤◌, ◌<◌}
use mathlib.Core.Path.{◌≡◌, refl, sym, ap, ◌∙◌}
use mathlib.Core.Bool.{Bool, true, false, true≢false}
use mathlib.Core.List.{List}
use native.Mathlib.Decide.{dec_le}
use native.Mathlib.Omega.{arith}
use borrow.Author.Tests.{le-leb, lt-leb}
use lib.ListN.{length}
use Rattle.card.specs.Refusals.{not_converted}
use Rattle.card.specs.Limits.{card_bytes}
use Rattle.card.specs.Card.{Card}
use Rattle.entry.specs.Said.{says, refused, ◌>>◌, unless}
use Rattle.entry.proofs.Stages.{same_said}
use Rattle.deck.specs.Deck.{Entry}
use Rattle.reading.specs.Reading.{Outcome, taken, refused as turned, read_under}
use Rattle.texts.specs.Writing.{write_of}
use Rattle.rereading.proofs.RoundTrip.{read_again}
use Rattle.converting.specs.Converting.{old_rule, new_rule, written_said, body_by, body_said, with_body}
use Rattle.converting.specs.Converts.{NewBody, withdrawn, unchanged, written, NoBody, not_read, long_form, NewLive, SameCard}
use Rattle.converting.proofs.Stricter.{stricter}

-- what is said of the bytes, with its reason
pub data Told (e : Entry) : Type 0 where
  has : (body : List ℕ) → NewBody e body → body_said e ≡ says body → Told e
  has_not : NoBody e → body_said e ≡ refused not_converted e.number → Told e

module _ (e : Entry) where
  by : {b : Bool} {o n : Outcome} → e.live ≡ b → read_under old_rule e.body ≡ o → read_under new_rule e.body ≡ n → body_said e ≡ body_by b e.number e.body o n
  by l o n = λ i. body_by (l i) e.number e.body (o i) (n i)

  no_decimal : e.live ≡ true → (c : Card) → read_under new_rule e.body ≡ taken c → body_said e ≡ says e.body
  no_decimal l c n = by l (stricter e.body c n) n

  fits : (c : Card) → length (write_of c) ≤ card_bytes → written_said e.number c ≡ says (write_of c)
  fits c h = ap (λ (b : Bool). unless b not_converted e.number >> says (write_of c)) (le-leb (length (write_of c)) card_bytes h)

  too_long : (c : Card) → card_bytes < length (write_of c) → written_said e.number c ≡ refused not_converted e.number
  too_long c h = ap (λ (b : Bool). unless b not_converted e.number >> says (write_of c)) (lt-leb (length (write_of c)) card_bytes h)

  pub body_of : {body : List ℕ} → NewBody e body → body_said e ≡ says body
  body_of (withdrawn l) = by l refl refl
  body_of (unchanged c l n) = no_decimal l c n
  body_of (written c r p l o n h) = by l o n ∙ fits c h

  pub no_body_of : NoBody e → body_said e ≡ refused not_converted e.number
  no_body_of (not_read r p l o) = by l o refl
  no_body_of (long_form c r p l o n h) = by l o n ∙ too_long c h

  pub told_body : Told e
  told_body = go e.live refl (read_under old_rule e.body) refl (read_under new_rule e.body) refl
    where
      here : {body : List ℕ} → NewBody e body → Told e
      here {body} b = has body b (body_of b)

      nowhere : NoBody e → Told e
      nowhere b = has_not b (no_body_of b)

      anew : (c : Card) (r p : ℕ) → e.live ≡ true → read_under old_rule e.body ≡ taken c → read_under new_rule e.body ≡ turned r p → Dec (length (write_of c) ≤ card_bytes) → Told e
      anew c r p l eo en (yes h) = here (written c r p l eo en h)
      anew c r p l eo en (no h) = nowhere (long_form c r p l eo en (omega arith))

      go : (b : Bool) → e.live ≡ b → (o : Outcome) → read_under old_rule e.body ≡ o → (n : Outcome) → read_under new_rule e.body ≡ n → Told e
      go false l o eo n en = here (withdrawn l)
      go true l (turned r p) eo n en = nowhere (not_read r p l eo)
      go true l (taken c) eo (taken d) en = here (unchanged d l en)
      go true l (taken c) eo (turned r p) en = anew c r p l eo en (dec_le (length (write_of c)) card_bytes)

  -- the same card as before
  pub same_card : {body : List ℕ} → NewBody e body → SameCard e body
  same_card (withdrawn l) live = absurd (true≢false (sym live ∙ l))
  same_card (unchanged c l n) live = (c, stricter e.body c n, n)
  same_card (written c r p l o n h) live = (c, o, read_again old_rule new_rule e.body c o h)

  pub new_live : {body : List ℕ} → NewBody e body → NewLive (with_body e body)
  new_live b live = let (c, o, n) = same_card b live in (c, n)

  -- what the new rule takes stays, and so does what is withdrawn
  pub stays : NewLive e → NewBody e e.body
  stays h = go e.live refl
    where
      go : (b : Bool) → e.live ≡ b → NewBody e e.body
      go true l = let (c, n) = h l in unchanged c l n
      go false l = withdrawn l

  -- there is one way only
  pub one_body : {a b : List ℕ} → NewBody e a → NewBody e b → a ≡ b
  one_body x y = same_said (sym (body_of x) ∙ body_of y)
