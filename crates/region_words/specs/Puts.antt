-- What is answered where the words of a mask's regions are put into lent bytes.
use Rattle.std.specs.Prelude.{ℕ, ◌*◌, ◌/◌, ◌≤◌, ◌<◌, ◌≡◌, List, length, MatchOption}
use Rattle.std.specs.Prelude as rust
use Rattle.rows.specs.Answered.{option_of}
use Rattle.rows.specs.Rows.{Rows}
use Rattle.initialization_header.specs.declared.IgvmInitializationHeader.{IgvmInitializationHeader}
use Rattle.rules.specs.Relocations.{region_count, region_at, page_table_at}
use Rattle.lent.specs.Lent.{rows_put}
use Rattle.answers.specs.Relocations.{region_words}
use Rattle.region_words.specs.declared.PutRegions.{PutRegions}

-- nothing, where fewer words are lent than eight a region; else how many regions were put, and the page-table region
abbrev pub Puts : Rows IgvmInitializationHeader → ℕ → List ℕ → rust.Option PutRegions → List ℕ → Type 0
Puts xs given before answer after =
    let count = region_count xs given in
    MatchOption answer ((length before / 8 < 8 * count) × (after ≡ before))
    (λ put. (8 * count ≤ length before / 8) × (option_of put.table ≡ page_table_at xs given) × (put.count ≡ count)
    × (after ≡ rows_put count (λ n. region_words (region_at xs given n)) before))
