-- A ledger that has been written is read back, where its words fit 64 bits, and ground 6 does not refuse it, where it
-- is in order.
use Prim.Native.Nat.{ℕ, ◌+◌, ◌*◌, ◌^◌, ◌<◌, ◌≤◌}
use mathlib.Core.Path.{◌≡◌, refl, ap, ◌∙◌, sym, subst}
use mathlib.Core.List.{List, [], ◌∷◌, ◌++◌, Memᴰ}
use mathlib.Core.Bool.{false}
use native.Mathlib.Omega.{arith}
use lib.ListN.{length, drop}
use borrow.Author.Tests.{eq-eqb, le-ltb}
use Rattle.words.specs.Lists.{sum}
use Rattle.words.specs.Words.{number, bytes_of, number_at, word64, entries, bytes_of_words, written}
use Rattle.words.proofs.Lists.{none_pass, EachBelow, below_nil, below_cons}
use Rattle.words.proofs.Words.{first_word, entries_back, length_written}
use Rattle.reading.specs.Block.{Terms}
use Rattle.reading.specs.Interval.{most_kilowatts}
use Rattle.assessment.specs.Assessment.{Account, limit}
use Rattle.ledger.specs.Ledger.{
  account_bytes,
  most_credited,
  standing_of,
  Ledger,
  ledger_bytes,
  account_at,
  account_count,
  ledger_of,
  account_words,
  standing_words,
  ledger_words,
  not_laid_out,
  account_outside,
  does_not_close,
  not_a_ledger,
}
use Rattle.ledger.proofs.Sound.{AccountIn, LedgerIn}
use Rattle.ledger.proofs.GroundSixLaws.{sums_decide}

-- words that fit 64 bits
abbrev pub Fits : List ℕ → Type 0
Fits = EachBelow (2 ^ 64)

-- an account whose four values fit 64 bits
pub record AccountFits (a : Account) : Type 0 where
  pub id : a.id < 2 ^ 64
  pub largest : a.largest < 2 ^ 64
  pub charged : a.charged < 2 ^ 64
  pub credited : a.credited < 2 ^ 64

-- a ledger whose values, number of accounts and accounts fit 64 bits
pub record LedgerFits (l : Ledger) : Type 0 where
  pub net_cone : l.terms.net_cone < 2 ^ 64
  pub days : l.terms.days < 2 ^ 64
  pub year : l.terms.year < 2 ^ 64
  pub earliest : l.earliest < 2 ^ 64
  pub carried : l.carried < 2 ^ 64
  pub count : length l.accounts < 2 ^ 64
  pub accounts : (a : Account) → Memᴰ a l.accounts → AccountFits a

-- the words of accounts that fit are words that fit
account_words_fit : (xs : List Account) → ((a : Account) → Memᴰ a xs → AccountFits a) → Fits (account_words xs)
unfolding account_words
account_words_fit [] fit = below_nil
account_words_fit (a ∷ xs) fit =
    let f = fit a (Memᴰ.head refl) in
    below_cons _ _ f.id
    (below_cons _ _ f.largest
    (below_cons _ _ f.charged
    (below_cons _ _ f.credited (account_words_fit xs (λ b m. fit b (Memᴰ.tail m))))))

-- the words of a ledger that fits are words that fit
pub ledger_words_fit : (l : Ledger) → LedgerFits l → Fits (ledger_words l)
unfolding ledger_words standing_words
ledger_words_fit l f =
    let later = below_cons 8 _ (omega arith)
    (below_cons _ _ f.year (account_words_fit l.accounts f.accounts)) in
    below_cons 1 _ (omega arith)
    (below_cons _ _ f.net_cone
    (below_cons _ _ f.days
    (below_cons _ _ f.earliest (below_cons _ _ f.carried (below_cons _ _ f.count later)))))

-- the accounts of a written ledger
account_back : (rest : List ℕ) (a : Account) (xs : List Account) → AccountFits a
    → account_at (bytes_of_words 8 (account_words (a ∷ xs)) ++ rest) ≡ a
unfolding account_at word64 number_at account_words bytes_of_words bytes_of
account_back rest a xs f =
    let ws = account_words xs in
    λ i. record {
      id = first_word 8 a.id (a.largest ∷ a.charged ∷ a.credited ∷ ws) rest f.id i;
      largest = first_word 8 a.largest (a.charged ∷ a.credited ∷ ws) rest f.largest i;
      charged = first_word 8 a.charged (a.credited ∷ ws) rest f.charged i;
      credited = first_word 8 a.credited ws rest f.credited i;
    }

-- behind the bytes of the first account stand those of the others
next_accounts : (rest : List ℕ) (a : Account) (xs : List Account)
    → drop account_bytes (bytes_of_words 8 (account_words (a ∷ xs)) ++ rest) ≡ bytes_of_words 8 (account_words xs) ++ rest
unfolding account_words bytes_of_words bytes_of
next_accounts rest a xs = refl

-- accounts that fit are read back from the bytes of their words
accounts_back : (rest : List ℕ) (xs : List Account) → ((a : Account) → Memᴰ a xs → AccountFits a)
    → entries account_bytes account_at (length xs) (bytes_of_words 8 (account_words xs) ++ rest) ≡ xs
accounts_back rest =
    entries_back account_bytes account_at (λ xs. bytes_of_words 8 (account_words xs)) rest AccountFits (account_back rest)
    (next_accounts rest)

-- a ledger that fits is read back from a buffer that its words have been written to
pub ledger_back : (l : Ledger) (b : List ℕ) → LedgerFits l → ledger_of (written (ledger_words l) b) ≡ l
unfolding ledger_of standing_of account_count written ledger_words standing_words bytes_of_words bytes_of word64 number_at
ledger_back l b f =
    let ws = account_words l.accounts in
    let rest = drop (8 * length (ledger_words l)) b in
    let n = length l.accounts in
    let t = l.terms in
    let counted : number 8 (bytes_of_words 8 (n ∷ 8 ∷ t.year ∷ ws) ++ rest) ≡ n = first_word 8 n (8 ∷ t.year ∷ ws) rest
    f.count in
    λ i. record {
      terms = record {
        net_cone =
            first_word 8 t.net_cone (t.days ∷ l.earliest ∷ l.carried ∷ n ∷ 8 ∷ t.year ∷ ws) rest f.net_cone i;
        days = first_word 8 t.days (l.earliest ∷ l.carried ∷ n ∷ 8 ∷ t.year ∷ ws) rest f.days i;
        year = first_word 8 t.year ws rest f.year i;
      };
      earliest = first_word 8 l.earliest (l.carried ∷ n ∷ 8 ∷ t.year ∷ ws) rest f.earliest i;
      carried = first_word 8 l.carried (n ∷ 8 ∷ t.year ∷ ws) rest f.carried i;
      accounts = (ap (λ k. entries account_bytes account_at k (bytes_of_words 8 ws ++ rest)) counted ∙ accounts_back rest l.accounts f.accounts) i;
    }

-- each account takes four words
length_account_words : (xs : List Account) → length (account_words xs) ≡ 4 * length xs
unfolding account_words
length_account_words [] = refl
length_account_words (a ∷ xs) = omega (arith, length_account_words xs)

-- writing a ledger where there is room for it keeps the buffer's length
pub length_ledger : (l : Ledger) (b : List ℕ) → ledger_bytes (length l.accounts) ≤ length b
    → length (written (ledger_words l) b) ≡ length b
unfolding ledger_words standing_words ledger_bytes
length_ledger l b h = length_written (ledger_words l) b (omega (arith, length_account_words l.accounts))

-- the words of a written ledger that its values do not show
record Laid (l : Ledger) (b : List ℕ) : Type 0 where
  pub format : word64 b 0 ≡ 1
  pub count : account_count b ≡ length l.accounts
  pub offset : word64 b 6 ≡ 8

-- a written ledger has those words, where its number of accounts fits 64 bits
laid : (l : Ledger) (b : List ℕ) → length l.accounts < 2 ^ 64 → Laid l (written (ledger_words l) b)
unfolding account_count standing_of word64 number_at written ledger_words standing_words bytes_of_words bytes_of
laid l b h =
    let ws = account_words l.accounts in
    let rest = drop (8 * length (ledger_words l)) b in
    let n = length l.accounts in
    let t = l.terms in
    record {
      format =
          first_word 8 1 (t.net_cone ∷ t.days ∷ l.earliest ∷ l.carried ∷ n ∷ 8 ∷ t.year ∷ ws) rest (omega arith);
      count = first_word 8 n (8 ∷ t.year ∷ ws) rest h;
      offset = first_word 8 8 (t.year ∷ ws) rest (omega arith);
    }

-- an account within its bounds passes ground 6's test of an account
account_good : (t : Terms) (a : Account) → AccountIn t a → account_outside t a ≡ false
unfolding account_outside
account_good t a s =
    rw (le-ltb most_kilowatts a.largest s.largest, le-ltb (limit t a.largest) a.charged s.charged)
    (le-ltb most_credited a.credited s.credited)

-- a buffer whose words 0 and 6 are as laid out passes the test of the layout
laid_out : (l : Ledger) (b : List ℕ) → Laid l b → not_laid_out b ≡ false
unfolding not_laid_out
laid_out l b p =
    rw (eq-eqb (word64 b 0) 1 p.format, eq-eqb (word64 b 6) 8 p.offset)

-- a ledger in order passes the test that its sums close
closing : (l : Ledger) → LedgerIn l → does_not_close l ≡ false
unfolding does_not_close
closing l s =
    rw (eq-eqb (sum (λ a. a.charged) l.accounts) (sum (λ a. a.credited) l.accounts + l.carried) s.closes)

-- a buffer that holds a ledger in order, where there is room for it, passes ground 6
holds : (l : Ledger) (b : List ℕ) → ledger_of b ≡ l → Laid l b → ledger_bytes (length l.accounts) ≤ length b
    → LedgerIn l → not_a_ledger b ≡ false
unfolding ledger_bytes
holds l b back p room s =
    let counted = p.count in
    let r : LedgerIn (ledger_of b) = subst LedgerIn (sym back) s in
    let accounts = none_pass (account_outside (ledger_of b).terms) (ledger_of b).accounts
    (λ a m. account_good (ledger_of b).terms a (r.accounts a m)) in
    sums_decide b (omega (arith, room)) (laid_out l b p) r.terms (omega (arith, counted, s.some))
    (omega (arith, counted, s.few)) r.ids (omega (arith, counted, room)) r.earliest r.carried accounts
    ∙ closing (ledger_of b) r

-- so ground 6 does not refuse a written ledger that fits, has room and is in order
pub written_holds : (l : Ledger) (b : List ℕ) → LedgerFits l → ledger_bytes (length l.accounts) ≤ length b
    → LedgerIn l → not_a_ledger (written (ledger_words l) b) ≡ false
written_holds l b fit room s =
    holds l (written (ledger_words l) b) (ledger_back l b fit) (laid l b fit.count)
    (rw (length_ledger l b room) room) s
