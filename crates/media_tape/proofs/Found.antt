-- The item at a place, by the two lengths that are read there.
use Rattle.std.proofs.Common.{◌≡◌, ℕ, ◌+◌, ◌-◌, ◌≤◌, ◌<◌, List, length, take, drop, slice_range, Some, None, inl, inr, ap, sym, ◌∙◌, arith}
use Rattle.std.proofs.lemmas.List.{drop-take, drop-drop, length-drop, length-take-le}
use Rattle.byteorder.specs.Endian.{big_number}
use Rattle.byteorder.specs.Numbers.{big_from-take}
use Rattle.media_tape.specs.Items.{most_bytes, front}
use Rattle.media_tape.proofs.Items.{front-is, is-front, front-cases}

-- the number k bytes after a place, below an end
pub number-behind : (content : List ℕ) (place k end : ℕ) → place + k + 4 ≤ end
    → big_number 4 (slice_range content (place + k) (place + k + 4)) ≡ big_number 4 (drop k (drop place (take end content)))
number-behind content place k end within =
    let four : place + k + 4 - (place + k) ≡ 4 = omega arith in
    let rest : place + k + (end - (place + k)) ≡ end = omega arith in
    let here : drop k (drop place (take end content)) ≡ take (end - (place + k)) (drop (place + k) content) =
    drop-drop k place (take end content) ∙ ap (λ (m : ℕ). drop (place + k) (take m content)) (sym rest)
    ∙ drop-take (place + k) (end - (place + k)) content in
    ap (λ (m : ℕ). big_number 4 (take m (drop (place + k) content))) four
    ∙ big_from-take 0 4 4 (drop (place + k) content) (omega arith)
    ∙ sym (ap (big_number 4) here ∙ big_from-take 0 4 (end - (place + k)) (drop (place + k) content) (omega arith))

number-here : (content : List ℕ) (place end : ℕ) → place + 4 ≤ end
    → big_number 4 (slice_range content place (place + 4)) ≡ big_number 4 (drop place (take end content))
number-here content place end within =
    let here : place + 0 ≡ place = omega arith in
    rw here at (number-behind content place 0 end (omega arith))

length-below : (content : List ℕ) (place end : ℕ) → end ≤ length content → length (drop place (take end content)) ≡ end - place
length-below content place end long = length-drop place (take end content) ∙ ap (λ (m : ℕ). m - place) (length-take-le end content long)

-- no item, where it is too long to be whole
pub none-short : (content : List ℕ) (place end : ℕ) → end ≤ length content → end - place < 8 → None ≡ front (drop place (take end content))
none-short content place end long short =
    let bytes = drop place (take end content) in
    let as_long = length-below content place end long in
    elim (front-cases bytes) [
      | inl none ↦ sym none
      | inr found ↦ let within = (front-is bytes found.0 found.1).within in absurd (omega arith)
    ]

pub none-long : (content : List ℕ) (place end n : ℕ) → end ≤ length content → place + 8 ≤ end
    → n ≡ big_number 4 (slice_range content place (place + 4)) → (n ≤ most_bytes → n ≤ end - place - 8 → ⊥)
    → None ≡ front (drop place (take end content))
none-long content place end n long some number beyond =
    let bytes = drop place (take end content) in
    let as_long = length-below content place end long in
    let told : n ≡ big_number 4 bytes = number ∙ number-here content place end (omega arith) in
    elim (front-cases bytes) [
      | inl none ↦ sym none
      | inr found ↦
          let is = front-is bytes found.0 found.1 in
          let same : n ≡ found.0 = told ∙ is.number in
          let within = is.within in
          let most = is.most in
          absurd (beyond (omega arith) (omega arith))
    ]

pub none-other : (content : List ℕ) (place end n again : ℕ) → end ≤ length content → place + 8 ≤ end → n ≤ end - place - 8
    → n ≡ big_number 4 (slice_range content place (place + 4))
    → again ≡ big_number 4 (slice_range content (place + 4 + n) (place + 4 + n + 4)) → (again ≡ n → ⊥)
    → None ≡ front (drop place (take end content))
none-other content place end n again long some within number told_again other =
    let bytes = drop place (take end content) in
    let told : n ≡ big_number 4 bytes = number ∙ number-here content place end (omega arith) in
    let at : place + 4 + n ≡ place + (n + 4) = omega arith in
    let behind : again ≡ big_number 4 (drop (n + 4) bytes) =
    told_again ∙ ap (λ (m : ℕ). big_number 4 (slice_range content m (m + 4))) at ∙ number-behind content place (n + 4) end (omega arith) in
    elim (front-cases bytes) [
      | inl none ↦ sym none
      | inr found ↦
          let is = front-is bytes found.0 found.1 in
          let same : n ≡ found.0 = told ∙ is.number in
          absurd (other (behind ∙ ap (λ (m : ℕ). big_number 4 (drop (m + 4) bytes)) same ∙ is.again ∙ sym same))
    ]

pub some-item : (content : List ℕ) (place end n again : ℕ) → end ≤ length content → place + 8 ≤ end → n ≤ end - place - 8 → n ≤ most_bytes
    → n ≡ big_number 4 (slice_range content place (place + 4))
    → again ≡ big_number 4 (slice_range content (place + 4 + n) (place + 4 + n + 4)) → again ≡ n
    → Some n ≡ front (drop place (take end content))
some-item content place end n again long some within most number told_again same =
    let bytes = drop place (take end content) in
    let as_long = length-below content place end long in
    let at : place + 4 + n ≡ place + (n + 4) = omega arith in
    sym (is-front bytes n (record {
      number = sym (number ∙ number-here content place end (omega arith));
      most = most;
      within = omega arith;
      again = sym (sym same ∙ told_again ∙ ap (λ (m : ℕ). big_number 4 (slice_range content m (m + 4))) at
          ∙ number-behind content place (n + 4) end (omega arith));
    }))
