-- Words that stand in a buffer where they would be written, or are written over; and accounts, which stand where they
-- are read.
use Prim.Native.Nat.{ℕ, zero, suc, ◌+◌, ◌*◌, ◌/◌, ◌%◌, ◌≤◌}
use mathlib.Core.Path.{◌≡◌, refl, sym, ap, ap₂, ◌∙◌}
use mathlib.Core.List.{List, [], ◌∷◌, ◌++◌, append_assoc}
use native.Mathlib.Omega.{arith}
use lib.ListN.{length, take, drop, take-append-drop, length-drop, length-append}
use lib.Seq.{drop-drop, drop_at, take_at, take-add, length-take-le}
use Rattle.words.specs.Words.{
  Bytes,
  number,
  bytes_of,
  number_at,
  word64,
  entries,
  words_in,
  bytes_of_words,
  written,
  written_at,
}
use Rattle.words.proofs.Words.{length_bytes_of_words, drop_bytes}
use Rattle.words.proofs.Access.{words_append, write_more}
use Rattle.ledger.specs.Ledger.{account_bytes, ledger_bytes, account_at, account_count, ledger_of, account_words}
use Rattle.ledger.proofs.Accounts.{accounts_turn}

-- words whose bytes stand at a place already
module _ (at : ℕ) (ws b rest : List ℕ) (stands : drop at b ≡ bytes_of_words 8 ws ++ rest) where
  -- to write them there changes nothing
  pub already_written : written_at at ws b ≡ b
  unfolding written_at written
  already_written =
      let words = bytes_of_words 8 ws in
      ap (λ d. take at b ++ (words ++ drop (8 * length ws) d)) stands
      ∙ ap (λ r. take at b ++ (words ++ r)) (drop_at words rest (8 * length ws) (length_bytes_of_words 8 ws))
      ∙ ap (λ d. take at b ++ d) (sym stands)
      ∙ take-append-drop at b

  -- and to write others behind them is to write them with those
  pub written_with : (vs : List ℕ) → at + 8 * length ws ≤ length b
      → written_at (at + 8 * length ws) vs b ≡ written_at at (ws ++ vs) b
  written_with vs room = ap (written_at (at + 8 * length ws) vs) (sym already_written) ∙ write_more at ws vs b room

-- words written where as many words have just been written
pub overwritten : (at : ℕ) (us ws b : List ℕ) → length us ≡ length ws → at ≤ length b
    → written_at at ws (written_at at us b) ≡ written_at at ws b
unfolding written_at written
overwritten at us ws b same room =
    let front = length-take-le at b room in
    let old = bytes_of_words 8 us in
    let new = bytes_of_words 8 ws in
    let rest = drop (8 * length us) (drop at b) in
    let size : length old ≡ 8 * length ws = omega (arith, length_bytes_of_words 8 us) in
    let far = drop_at old rest (8 * length ws) size ∙ ap (λ n. drop (8 * n) (drop at b)) same in
    ap₂ (λ l r. l ++ (new ++ drop (8 * length ws) r))
    (take_at (take at b) (old ++ rest) at front)
    (drop_at (take at b) (old ++ rest) at front)
    ∙ ap (λ r. take at b ++ (new ++ r)) far

-- words written in front of words that have just been written behind them
pub write_front : (ws vs b : List ℕ) → 8 * length ws ≤ length b
    → written ws (written_at (8 * length ws) vs b) ≡ written (ws ++ vs) b
unfolding written written_at
write_front ws vs b h =
    let at = 8 * length ws in
    let end = 8 * length (ws ++ vs) in
    let front = bytes_of_words 8 ws in
    let behind = bytes_of_words 8 vs in
    let rest = drop (8 * length vs) (drop at b) in
    let all : at + 8 * length vs ≡ end = omega (arith, length-append ws vs) in
    let far : rest ≡ drop end b = drop-drop (8 * length vs) at b ∙ ap (λ k. drop k b) all in
    ap (λ r. front ++ r) (drop_at (take at b) (behind ++ rest) at (length-take-le at b h) ∙ ap (λ r. behind ++ r) far)
    ∙ sym (append_assoc front behind (drop end b))
    ∙ ap (λ words. words ++ drop end b) (sym (words_append 8 ws vs))

-- the bytes of a number are those that it was read from
bytes_back : (n : ℕ) (b : List ℕ) → Bytes b → n ≤ length b → bytes_of n (number n b) ≡ take n b
unfolding number bytes_of
bytes_back zero b bytes h = refl
bytes_back (suc n) [] bytes h = absurd (omega arith)
bytes_back (suc n) (x ∷ b) bytes h =
    let low : (x + 256 * number n b) % 256 ≡ x = omega (arith, bytes 0) in
    let high : (x + 256 * number n b) / 256 ≡ number n b = omega (arith, bytes 0) in
    ap₂ (λ y m. y ∷ bytes_of n m) low high ∙ ap (λ l. x ∷ l) (bytes_back n b (λ i. bytes (suc i)) (omega arith))

-- the bytes of words are those that they were read from
words_back : (n : ℕ) (b : List ℕ) → Bytes b → 8 * n ≤ length b → bytes_of_words 8 (words_in n b) ≡ take (8 * n) b
unfolding bytes_of_words words_in entries word64 number_at
words_back zero b bytes h = refl
words_back (suc n) b bytes h =
    let more : 8 + 8 * n ≡ 8 * suc n = omega arith in
    let later = words_back n (drop 8 b) (drop_bytes 8 b bytes) (omega (arith, length-drop 8 b)) in
    ap₂ ◌++◌ (bytes_back 8 b bytes (omega arith)) later ∙ sym (take-add 8 (8 * n) b) ∙ ap (λ k. take k b) more

-- the accounts of a ledger b
module _ (b : List ℕ) where
  -- the words of n accounts from j on
  abbrev pub accounts_from : ℕ → ℕ → List ℕ
  accounts_from n j = account_words (take n (drop j (ledger_of b).accounts))

  -- are read where account j begins, four for each
  accounts_words : (n j : ℕ) → j + n ≤ account_count b → accounts_from n j ≡ words_in (4 * n) (drop (ledger_bytes j) b)
  unfolding entries account_words account_at words_in word64 number_at ledger_bytes
  accounts_words zero j h = refl
  accounts_words (suc n) j h =
      let part = drop (ledger_bytes j) b in
      let more : 4 * suc n ≡ suc (suc (suc (suc (4 * n)))) = omega arith in
      let next : ledger_bytes j + account_bytes ≡ ledger_bytes (j + 1) = omega arith in
      let two : drop 8 (drop 8 part) ≡ drop 16 part = drop-drop 8 8 part in
      let three : drop 8 (drop 8 (drop 8 part)) ≡ drop 24 part = ap (drop 8) two ∙ drop-drop 8 16 part in
      let four : drop 8 (drop 8 (drop 8 (drop 8 part))) ≡ drop 32 part = ap (drop 8) three ∙ drop-drop 8 24 part in
      let far = four ∙ drop-drop account_bytes (ledger_bytes j) b ∙ ap (λ k. drop k b) next in
      let rest = accounts_words n (j + 1) (omega arith) ∙ ap (words_in (4 * n)) (sym far) in
      ap (λ l. account_words (take (suc n) l)) (accounts_turn b j (omega arith))
      ∙ rw more (λ k. number 8 part ∷ number 8 (drop 8 part) ∷ number 8 (sym two k) ∷ number 8 (sym three k) ∷ rest k)

  -- so they stand there
  pub accounts_stand : (n j : ℕ) → Bytes b → j + n ≤ account_count b → ledger_bytes (account_count b) ≤ length b
      → drop (ledger_bytes j) b ≡ bytes_of_words 8 (accounts_from n j) ++ drop (ledger_bytes (j + n)) b
  unfolding ledger_bytes
  accounts_stand n j bytes h room =
      let at = ledger_bytes j in
      let part = drop at b in
      let size : 8 * (4 * n) ≡ account_bytes * n = omega arith in
      let end : at + account_bytes * n ≡ ledger_bytes (j + n) = omega arith in
      let back = words_back (4 * n) part (drop_bytes at b bytes) (omega (arith, length-drop at b)) in
      let front = ap (bytes_of_words 8) (accounts_words n j h) ∙ back ∙ ap (λ k. take k part) size in
      sym (take-append-drop (account_bytes * n) part)
      ∙ ap₂ ◌++◌ (sym front) (drop-drop (account_bytes * n) at b ∙ ap (λ k. drop k b) end)
