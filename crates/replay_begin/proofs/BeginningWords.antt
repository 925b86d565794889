-- The beginning of the replay program in words: a session of the address that twelve digits spell; or how the program is called, for a missing address
-- and for a bad one, and a session in which nothing can be played.
use Rattle.std.specs.Prelude.{ℕ, ◌≡◌, refl, Bool, true, false, ◌&&◌, ◌↔◌, List, eqb, Err, Ok, Option, Some, None, Result, unwrap_or}
use Rattle.std.proofs.Common.{sym, ◌∙◌, arith}
use Rattle.std.proofs.lemmas.Bool.{false≢true}
use Rattle.std.proofs.Math.Bool.{and-eq-true_iff}
use borrow.Author.Tests.{eqb-true, eqb-false, eq-eqb}
use Rattle.laws.specs.TestLaws.{pick_cases}
use Rattle.item_address.specs.Address.{Good, is_good}
use Rattle.item_address.proofs.AddressLaws.{good, is_good_lem}
use Rattle.replay.proofs.StepWords.{InRanges}
use Rattle.replay_address.specs.Digits.{spelled}
use Rattle.replay_address.specs.Address.{address_read}
use Rattle.replay_address.proofs.AddressLaws.{TwelveDigits, Spells, AddressReads, address-reads, none_read}
use Rattle.replay_block.specs.Block.{begun}
use Rattle.replay_block.proofs.BlockWords.{begin_words, begin_refused}
use Rattle.replay_text.specs.declared.Message.{Message}
use Rattle.replay_text.specs.declared.Message.TheVariants.{Usage}
use Rattle.replay_text.specs.declared.Reason.{Reason}
use Rattle.replay_text.specs.declared.Reason.TheVariants.{NotOneArgument, BadAddress}
use Rattle.replay_begin.specs.Beginning.{no_meter, address_given, beginning}
use Rattle.replay_begin.specs.declared.Beginning.{Beginning}

-- The one word behind the program's name is twelve digits, and not twelve nines.
pub record NamesAMeter (words : ℕ) (word : List ℕ) : Type 0 where
  pub two : words ≡ 2
  pub digits : TwelveDigits word
  pub no_nines : spelled word ≡ 999999999999 → ⊥

-- What holds of a beginning with so many words, the second of them this.
pub record BeginsRight (words : ℕ) (word : List ℕ) (b : Beginning) : Type 0 where
  -- a session begins exactly where a meter is named, and it is that of the address that the digits spell
  pub begins : (b.opening ≡ Ok tt) ↔ NamesAMeter words word
  pub session : b.opening ≡ Ok tt → (address : List ℕ) × Spells word address × Good address × (b.session ≡ (begun address).session)
  -- else it is said how the program is called, for a missing address or for a bad one, and the session is out of its ranges
  pub missing : (b.opening ≡ Err (Usage NotOneArgument)) ↔ (words ≡ 2 → ⊥)
  pub bad : (b.opening ≡ Err (Usage BadAddress)) ↔ ((words ≡ 2) × (NamesAMeter words word → ⊥))
  pub none : (NamesAMeter words word → ⊥) → InRanges b.session.state → ⊥

-- An address that is given: good exactly where a meter is named, and then the digits spell it.
record IsGiven (words : ℕ) (word address : List ℕ) : Type 0 where
  exactly : Good address ↔ NamesAMeter words word
  spells : NamesAMeter words word → Spells word address

-- Where no meter is named, the address is one that no meter has.
unnamed-given : {words : ℕ} {word : List ℕ} → (NamesAMeter words word → ⊥) → IsGiven words word no_meter
unnamed-given unnamed =
    record {
      exactly = (λ fine. absurd (omega (arith, fine.decimal.0)), λ names. absurd (unnamed names));
      spells = λ names. absurd (unnamed names);
    }

given : (words : ℕ) (word : List ℕ) → IsGiven words word (address_given words word)
unfolding address_given
given words word =
    pick_cases (IsGiven words word) (eqb words 2)
    (λ yes. by (eqb-true words 2 yes) (address_read word) refl)
    (λ no. unnamed-given (λ names. eqb-false words 2 no names.two))
  where
    reads : AddressReads word (address_read word)
    reads = address-reads word

    by : words ≡ 2 → (read : Option (List ℕ)) → address_read word ≡ read → IsGiven words word (unwrap_or read no_meter)
    by two (Some address) e = record {
      exactly = (
        λ fine. record { two = two; digits = reads.exactly.0 (address, e); no_nines = (reads.good address e).0 fine },
        λ names. (reads.good address e).1 names.no_nines,
      );
      spells = λ names. reads.spells address e;
    }
    by two None e = unnamed-given (λ names. none_read (sym e ∙ (reads.exactly.1 names.digits).1))

-- Openings that differ.
not-said : {A : Type 0} {m : Message} → ◌≡◌ {A = Result Unit Message} (Ok tt) (Err m) → A
not-said e = let z : ◌≡◌ {A = ℕ} 0 1 = cc in absurd (omega arith)

other_reason : {A : Type 0} → ◌≡◌ {A = Result Unit Message} (Err (Usage BadAddress)) (Err (Usage NotOneArgument)) → A
other_reason e = let z : ◌≡◌ {A = ℕ} 0 1 = cc in absurd (omega arith)

-- Every beginning: a good address, and any other.
module _ (words : ℕ) (word : List ℕ) where
  abbrev address : List ℕ
  address = address_given words word

  begun-right : Good address → BeginsRight words word (beginning words word)
  unfolding beginning
  begun-right fine =
      let is = given words word in
      let names = is.exactly.0 fine in
      rw ((begin_words address).made fine) (record {
        begins = (λ _. names, λ _. refl);
        session = λ _. (address, is.spells names, fine, refl);
        missing = (λ e. not-said e, λ other. absurd (other names.two));
        bad = (λ e. not-said e, λ (_, unnamed). absurd (unnamed names));
        none = λ unnamed. absurd (unnamed names);
      })

  refused-right : (Good address → ⊥) → BeginsRight words word (beginning words word)
  unfolding beginning
  refused-right bad =
      let unnamed : NamesAMeter words word → ⊥ = λ names. bad ((given words word).exactly.1 names) in
      let out : InRanges (begun address).session.state → ⊥ = (begin_refused address).1 ((begin_refused address).0.1 bad) in
      rw ((begin_words address).refused bad) (pick_cases P (eqb words 2)
      (λ two. record {
        begins = (λ e. not-said (sym e), λ names. absurd (unnamed names));
        session = λ e. not-said (sym e);
        missing = (λ e. other_reason e, λ other. absurd (other (eqb-true words 2 two)));
        bad = (λ _. (eqb-true words 2 two, unnamed), λ _. refl);
        none = λ _. out;
      })
      (λ other. record {
        begins = (λ e. not-said (sym e), λ names. absurd (unnamed names));
        session = λ e. not-said (sym e);
        missing = (λ _. eqb-false words 2 other, λ _. refl);
        bad = (λ e. other_reason (sym e), λ (two, _). absurd (eqb-false words 2 other two));
        none = λ _. out;
      }))
    where
      P : Reason → Type 0
      P reason = BeginsRight words word (record { session = (begun address).session; opening = Err (Usage reason) })

  pub begins-right : BeginsRight words word (beginning words word)
  begins-right = by (is_good address) refl
    where
      by : (t : Bool) → is_good address ≡ t → BeginsRight words word (beginning words word)
      by true h = begun-right (good address h)
      by false h = refused-right (λ fine. false≢true (sym h ∙ is_good_lem address fine))
