mod OneLineLemmas
mod ReadLemmas
mod Texts
mod SectionLemmas
mod PrintedLemmas
