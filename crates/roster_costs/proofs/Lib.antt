mod CoverLemmas
