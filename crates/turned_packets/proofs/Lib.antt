mod PutBack
mod Standing
mod RightSums
mod EmbeddedSums
mod ReadAgain
